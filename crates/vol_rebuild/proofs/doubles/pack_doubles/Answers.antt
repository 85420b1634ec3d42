use Rattle.std.proofs.Common.{◌≡◌, ◌≤◌, ◌<◌, ◌+◌, ◌⊎◌, inl, inr, ℕ, refl, sym, subst, arith}
use Rattle.std.proofs.lemmas.Bool.{cases_lt}
use Rattle.std.proofs.lemmas.Result.{err_from_is_err_and}
use Rattle.vol_mends.specs.Told.{IsSingle}
use Rattle.vol_rebuild.proofs.Reading.{in_geometry}
use Rattle.vol_rebuild.proofs.Stepping.{next_well, next_out}
use Rattle.vol_rebuild.proofs.doubles.pack_doubles.Goals as goal

pub overflow_add-n-end : goal.overflow_add-n-end
overflow_add-n-end g c = let k = (in_geometry c.args.g.now c.args.m.now.blocks c.args.cat.now c.requires).files_to in omega (arith, k)

pub returns-in_err-pack-clause-step : goal.returns-in_err-pack-clause-step
returns-in_err-pack-clause-step g c =
    let p = err_from_is_err_and c.from_residual.result c.from_residual.ensures.1 in
    next_out _ _ _ _ _ _ _ _ _ _ _ _ _ refl p.1 p.2 c.loop-n.invariant.step c.in_err-pack.ensures.step

pub loop-n-preserved : goal.loop-n-preserved
loop-n-preserved g c = record {
  step = next_well _ _ _ _ _ _ _ _ _ _ _ refl c.loop-n.invariant.step c.in_ok-pack.ensures.step;
  told = c.in_ok-pack.ensures.told;
  singles = λ i from to. by_place i from (cases_lt i c.loop-n.n) to;
} where
  by_place : (i : ℕ) → 1 ≤ i → (i < c.loop-n.n) ⊎ (c.loop-n.n ≤ i) → i < c.loop-n.n + 1 → IsSingle c.args.g.now c.pack.new.m.blocks i
  by_place i from (inl before) to = c.in_ok-pack.ensures.singles i (record { from = from; to = omega arith }) (c.loop-n.invariant.singles i from before)
  by_place i from (inr here) to = let e : i ≡ c.loop-n.n = omega (arith, here, to) in subst (λ (k : ℕ). IsSingle c.args.g.now c.pack.new.m.blocks k) (sym e) c.in_ok-pack.ensures.single
