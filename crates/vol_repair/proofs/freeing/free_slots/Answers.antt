-- Each slot that is not kept becomes free, one after another.
use Rattle.std.proofs.Common.{◌+◌, refl, sym, arith}
use Rattle.std.proofs.lemmas.Result.{err_from_is_err_and}
use Rattle.vol_parts.specs.Volumes.{volume, IsNumber}
use Rattle.vol_sound.specs.Sound.{is_kept}
use Rattle.vol_sound.proofs.KeptLemmas.{flags-count}
use Rattle.vol_repair.specs.Aims.{Touching}
use Rattle.vol_repair.proofs.Stepping.{next_well, next_out}
use Rattle.vol_repair.proofs.SlotSteps.{below_as, one_skipped, one_more, slot_on, is_lost, is_left, touched_next}
use Rattle.vol_repair.proofs.freeing.free_slots.Goals as goal
use Rattle.vol_repair.proofs.freeing.free_slots.Goals.{then-is_to_free+in_ok-free, else-is_to_free}

pub is_to_free-requires-clause-flags : goal.is_to_free-requires-clause-flags
is_to_free-requires-clause-flags g c = flags-count (is_kept (volume c.args.home.now c.args.m.now.blocks)) c.args.kept.now c.args.home.now.files c.requires.kept

pub free-requires-clause-inside : goal.free-requires-clause-inside
free-requires-clause-inside g c =
    let is : IsNumber (volume c.args.home.now c.args.m.now.blocks) c.loop-n.n = record { from = omega (arith, c.loop-n.auto.n); to = omega (arith, c.loop-n-test.true, c.loop-n.auto.n-end) } in
    slot_on c.args.home.now c.args.m.now.blocks c.loop-n.m.blocks c.loop-n.n c.requires.limits c.requires.system c.loop-n.invariant.below.slots is

pub returns-in_err-free-clause-step : goal.returns-in_err-free-clause-step
returns-in_err-free-clause-step g c =
    let home = c.args.home.now in
    let first = c.args.m.now.blocks in
    let now = c.loop-n.m.blocks in
    let n = c.loop-n.n in
    let b = c.loop-n.invariant.below in
    let is : IsNumber (volume home first) n = record { from = omega (arith, c.loop-n.auto.n); to = omega (arith, c.loop-n-test.true, c.loop-n.auto.n-end) } in
    let lost = is_lost home first c.all.result.now c.args.kept.now n c.requires.kept is c.if-is_to_free.ensures in
    let next = one_more home first now n b c.requires.limits c.requires.system is lost (c.in_err-free.ensures.whole b.whole) in
    let p = err_from_is_err_and c.from_residual.result c.from_residual.ensures.1 in
    next_out _ _ _ _ _ _ _ _ _ _ _ _ _ refl p.1 p.2 c.loop-n.invariant.step (c.in_err-free.ensures.step (Touching home first) (touched_next home first now n b) (touched_next home first _ (n + 1) next))

pub loop-n-preserved : goal.loop-n-preserved
loop-n-preserved g c =
    let home = c.args.home.now in
    let first = c.args.m.now.blocks in
    let now = c.loop-n.m.blocks in
    let n = c.loop-n.n in
    let b = c.loop-n.invariant.below in
    let is : IsNumber (volume home first) n = record { from = omega (arith, c.loop-n.auto.n); to = omega (arith, c.loop-n-test.true, c.loop-n.auto.n-end) } in
    elim c.if-is_to_free.branch [
      | then-is_to_free+in_ok-free w ↦
          let lost = is_lost home first c.all.result.now c.args.kept.now n c.requires.kept is w.if-is_to_free.ensures in
          let next = one_more home first now n b c.requires.limits c.requires.system is lost (w.in_ok-free.ensures.whole b.whole) in
          let one = w.in_ok-free.ensures.step (Touching home first) (touched_next home first now n b) (touched_next home first _ (n + 1) next) in
          rw w.m-is (record {
            step = next_well _ _ _ _ _ _ _ _ _ _ _ refl c.loop-n.invariant.step one;
            below = below_as home first _ w.free.new.m.blocks (n + 1) next w.in_ok-free.ensures.ok;
          })
      | else-is_to_free w ↦
          let left = is_left home first c.all.result.now c.args.kept.now n c.requires.kept is w.if-is_to_free.ensures in
          rw w.m-is (record {
            step = c.loop-n.invariant.step;
            below = below_as home first c.all.result.now now (n + 1) (one_skipped home first c.all.result.now n (below_as home first now c.all.result.now n b c.all.ensures) left) (sym c.all.ensures);
          })
    ]
