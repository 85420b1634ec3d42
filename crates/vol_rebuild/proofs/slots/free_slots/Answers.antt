use Rattle.std.proofs.Common.{◌∙◌, refl, sym, arith}
use Rattle.std.specs.Prelude.{slice_index_or}
use Rattle.std.proofs.lemmas.Result.{err_from_is_err_and}
use Rattle.vol_rebuild.proofs.Stepping.{step_none, next_well, next_out}
use Rattle.vol_rebuild.proofs.Reading.{few_files}
use Rattle.vol_rebuild.proofs.Looping.{rest_at}
use Rattle.vol_rebuild.proofs.Freeing.{first_of_rest, gone_on}
use Rattle.vol_rebuild.proofs.slots.free_slots.Goals as goal

pub gone_numbers-requires : goal.gone_numbers-requires
gone_numbers-requires g c = few_files c.args.g.now c.args.m.now.blocks c.args.cat.now c.requires.told

pub loop-n-init : goal.loop-n-init
loop-n-init g c = record {
  step = step_none _ _ _ _ (λ n. n);
  told = record { leaked = c.args.cat.now.leaked; flags = c.args.cat.now.leaked_numbers; told = c.requires.told };
  settled = c.requires.settled;
  none = c.requires.none;
  full = c.requires.full;
  left = c.deref-n-items.ensures.value ∙ c.in_ok-numbers.ensures.numbers;
  files = omega arith;
  singles = λ i is h. h;
}

pub free-requires-clause-gone : goal.free-requires-clause-gone
free-requires-clause-gone g c =
    first_of_rest c.loop-n.cat c.deref-n-items.result.now c.loop-n.n-index c.loop-n-test.true c.loop-n.invariant.settled c.loop-n.invariant.none c.loop-n.invariant.full c.loop-n.invariant.left

pub returns-in_err-free-clause-step : goal.returns-in_err-free-clause-step
returns-in_err-free-clause-step g c =
    let p = err_from_is_err_and c.from_residual-in_err-free.result c.from_residual-in_err-free.ensures.1 in
    next_out _ _ _ _ _ _ _ _ _ _ _ _ _ refl p.1 p.2 c.loop-n.invariant.step c.in_err-free.ensures.step

pub loop-n-preserved : goal.loop-n-preserved
loop-n-preserved g c =
    let n = slice_index_or c.deref-n-items.result.now c.loop-n.n-index 0 in
    let rest = sym c.loop-n.invariant.left ∙ rest_at c.deref-n-items.result.now c.loop-n.n-index c.loop-n-test.true in
    let gone = first_of_rest c.loop-n.cat c.deref-n-items.result.now c.loop-n.n-index c.loop-n-test.true c.loop-n.invariant.settled c.loop-n.invariant.none c.loop-n.invariant.full c.loop-n.invariant.left in
    let on = gone_on c.loop-n.cat c.free.new.cat n _ gone rest c.in_ok-free.ensures.left in
    record {
      step = next_well _ _ _ _ _ _ _ _ _ _ _ refl c.loop-n.invariant.step c.in_ok-free.ensures.step;
      told = c.in_ok-free.ensures.told;
      settled = on.settled;
      none = on.none;
      full = on.full;
      left = sym on.left;
      files = (let a = on.files in let b = c.loop-n.invariant.files in omega (arith, a, b));
      singles = λ i is h. c.in_ok-free.ensures.singles i is (c.loop-n.invariant.singles i is h);
    }
