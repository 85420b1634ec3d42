use Rattle.std.proofs.Common.{◌≡◌, ◌∙◌, ◌+◌, ◌∷◌, ◌++◌, append_assoc, slice_range, sym, ap}
use Rattle.vol_parts.specs.Volumes.{volume, runs}
use Rattle.vol_parts.specs.Iter.{file_runs_left}
use Rattle.vol_parts.proofs.Runs.{blocks_of, blocks_of-cons, body-runs, inside-first, inside-others}
use Rattle.vol_parts.proofs.bodies.body.Goals as goal

pub loop-run-init : goal.loop-run-init
loop-run-init c =
    let v = volume c.args.home.now c.args.blocks.now in
    let all : file_runs_left c.into_iter-run-iterator.result ≡ runs v c.args.n = ap file_runs_left c.into_iter-run-iterator.ensures.into_iter_gives ∙ c.file_runs-run-items.ensures in
    record {
      so_far = rw (c.new-all.ensures, all) (sym (body-runs v c.args.n));
      inside = rw all c.requires.runs.inside;
    }

pub push_run-requires : goal.push_run-requires
push_run-requires c =
    let v = volume c.args.home.now c.args.blocks.now in
    inside-first v c.in-Some.run' (file_runs_left c.next.new.self) (rw c.in-Some.ensures.steps at c.loop-run.invariant.inside)

pub loop-run-preserved : goal.loop-run-preserved
loop-run-preserved c =
    let v = volume c.args.home.now c.args.blocks.now in
    let r = c.in-Some.run' in
    let others = file_runs_left c.next.new.self in
    let inside = rw c.in-Some.ensures.steps at c.loop-run.invariant.inside in
    let part = slice_range v.blocks r.lbn (r.lbn + r.count) in
    let first : c.loop-run.all ++ blocks_of v (r ∷ others) ≡ (c.loop-run.all ++ part) ++ blocks_of v others =
    ap (λ bs. c.loop-run.all ++ bs) (blocks_of-cons v r others (inside-first v r others inside)) ∙ sym (append_assoc c.loop-run.all part (blocks_of v others)) in
    record {
      so_far = rw c.in_ok-push_run.ensures (sym first ∙ (rw c.in-Some.ensures.steps at c.loop-run.invariant.so_far));
      inside = inside-others v r others inside;
    }
