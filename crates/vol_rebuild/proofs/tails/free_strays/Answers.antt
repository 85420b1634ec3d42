use Rattle.std.proofs.Common.{List, refl, sym, subst, arith}
use Rattle.std.proofs.lemmas.Result.{err_from_is_err_and}
use Rattle.base_words.specs.Fields.{Block}
use Rattle.vol_mends.specs.Told.{IsTold}
use Rattle.vol_rebuild.proofs.Stepping.{step_none, next_well, next_out, ends_well}
use Rattle.vol_rebuild.proofs.Tailing.{flagged_at, place_number, place_filed, place_spare, files_on, clear_more, tails_clear}
use Rattle.vol_rebuild.proofs.tails.free_strays.Goals as goal

pub flagged-requires : goal.flagged-requires
flagged-requires g c = (c.args.g.now, c.requires.told.0, subst (λ (bs : List Block). IsTold c.args.g.now bs c.requires.told.0) (sym c.all.ensures) c.requires.told.1)

pub loop-i-init : goal.loop-i-init
loop-i-init g c = record {
  step = step_none _ _ _ _ (λ n. n);
  told = λ x t. t;
  singles = λ i is h. h;
  files = λ n is. refl;
  clear = λ j from to. absurd (omega (arith, from, to));
}

pub overflow_cast-i : goal.overflow_cast-i
overflow_cast-i g c = let to = (place_number c.args.g.now c.args.m.now.blocks c.items-filed-items.result.now c.loop-i.i (flagged_at c.args.g.now c.args.m.now.blocks c.all.result.now c.in_ok-flags.flags c.items-filed-items.result.now c.requires.told.0 c.all.ensures c.items-filed-items.ensures c.in_ok-flags.ensures c.requires.told.1) c.loop-i-test.true).to in let few = c.requires.geometry.files_to in omega (arith, to, few)

pub overflow_add-i : goal.overflow_add-i
overflow_add-i g c = let to = (place_number c.args.g.now c.args.m.now.blocks c.items-filed-items.result.now c.loop-i.i (flagged_at c.args.g.now c.args.m.now.blocks c.all.result.now c.in_ok-flags.flags c.items-filed-items.result.now c.requires.told.0 c.all.ensures c.items-filed-items.ensures c.in_ok-flags.ensures c.requires.told.1) c.loop-i-test.true).to in let few = c.requires.geometry.files_to in omega (arith, to, few)

pub free_stray-requires-clause-told : goal.free_stray-requires-clause-told
free_stray-requires-clause-told g c = (c.requires.told.0, c.loop-i.invariant.told c.requires.told.0 c.requires.told.1)

pub free_stray-requires-clause-number : goal.free_stray-requires-clause-number
free_stray-requires-clause-number g c = place_number c.args.g.now c.args.m.now.blocks c.items-filed-items.result.now c.loop-i.i (flagged_at c.args.g.now c.args.m.now.blocks c.all.result.now c.in_ok-flags.flags c.items-filed-items.result.now c.requires.told.0 c.all.ensures c.items-filed-items.ensures c.in_ok-flags.ensures c.requires.told.1) c.loop-i-test.true

pub free_stray-requires-clause-filed : goal.free_stray-requires-clause-filed
free_stray-requires-clause-filed g c =
    place_filed c.args.g.now c.args.m.now.blocks c.loop-i.m.blocks c.requires.told.0 c.items-filed-items.result.now c.loop-i.i c.requires.told.1 (flagged_at c.args.g.now c.args.m.now.blocks c.all.result.now c.in_ok-flags.flags c.items-filed-items.result.now c.requires.told.0 c.all.ensures c.items-filed-items.ensures c.in_ok-flags.ensures c.requires.told.1) c.loop-i-test.true c.loop-i.invariant.files

pub free_stray-requires-clause-spare : goal.free_stray-requires-clause-spare
free_stray-requires-clause-spare g c =
    place_spare c.args.g.now c.args.m.now.blocks c.loop-i.m.blocks c.requires.told.0 c.items-filed-items.result.now c.loop-i.i c.requires.told.1 (flagged_at c.args.g.now c.args.m.now.blocks c.all.result.now c.in_ok-flags.flags c.items-filed-items.result.now c.requires.told.0 c.all.ensures c.items-filed-items.ensures c.in_ok-flags.ensures c.requires.told.1) c.loop-i-test.true c.loop-i.invariant.files

pub returns-in_err-free_stray-clause-step : goal.returns-in_err-free_stray-clause-step
returns-in_err-free_stray-clause-step g c =
    let p = err_from_is_err_and c.from_residual-in_err-free_stray.result c.from_residual-in_err-free_stray.ensures.1 in
    next_out _ _ _ _ _ _ _ _ _ _ _ _ _ refl p.1 p.2 c.loop-i.invariant.step c.in_err-free_stray.ensures.step

pub loop-i-preserved : goal.loop-i-preserved
loop-i-preserved g c =
    let x = c.requires.told.0 in
    let here = c.in_ok-free_stray.ensures.ok x (c.loop-i.invariant.told x c.requires.told.1) in
    record {
      step = next_well _ _ _ _ _ _ _ _ _ _ _ refl c.loop-i.invariant.step c.in_ok-free_stray.ensures.step;
      told = λ y t. (c.in_ok-free_stray.ensures.ok y (c.loop-i.invariant.told y t)).told;
      singles = λ i is h. here.singles i is (c.loop-i.invariant.singles i is h);
      files = files_on c.args.g.now c.args.m.now.blocks c.loop-i.m.blocks c.free_stray.new.m.blocks c.loop-i.invariant.files here.files;
      clear = clear_more c.args.g.now c.args.m.now.blocks c.loop-i.m.blocks c.free_stray.new.m.blocks x c.loop-i.i c.loop-i.invariant.files c.loop-i.invariant.clear here;
    }

pub returns-clause-step : goal.returns-clause-step
returns-clause-step g c = ends_well _ _ _ _ _ _ _ _ refl c.loop-i.invariant.step

pub returns-clause-ok : goal.returns-clause-ok
returns-clause-ok g c x t =
    let are = flagged_at c.args.g.now c.args.m.now.blocks c.all.result.now c.in_ok-flags.flags c.items-filed-items.result.now c.requires.told.0 c.all.ensures c.items-filed-items.ensures c.in_ok-flags.ensures c.requires.told.1 in
    tails_clear c.args.g.now c.args.m.now.blocks c.loop-i.m.blocks x (c.loop-i.invariant.told x t) c.loop-i.invariant.singles c.requires.cut c.loop-i.invariant.files
    (λ j from to. c.loop-i.invariant.clear j from (let all = are.all in let done = c.loop-i-test.false in omega (arith, to, all, done)))
