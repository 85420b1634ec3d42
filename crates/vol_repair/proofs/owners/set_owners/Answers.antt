-- The files get their owners, one after another.
use Rattle.std.proofs.Common.{◌≡◌, ◌≤◌, ◌∙◌, ◌+◌, ◌-◌, length, refl, ap, arith}
use Rattle.std.proofs.lemmas.Result.{err_from_is_err_and}
use Rattle.vol_repair.proofs.Stepping.{step_none, step_weaken, next_well, next_out}
use Rattle.vol_repair.proofs.OwnerSteps.{alike_here, owned_to, owned_none, owned_next, owned_all, owned_alike}
use Rattle.vol_repair.proofs.owners.set_owners.Goals as goal

pub loop-n-init : goal.loop-n-init
loop-n-init g c = record {
  step = step_none _ _ _ _ (λ n. n) (alike_here c.args.g.now c.args.m.now.blocks c.args.cat.now c.requires.told);
  told = c.requires.told;
  so_far = owned_none c.args.cat.now;
}

pub returns-in_err-set_owner_of-clause-step : goal.returns-in_err-set_owner_of-clause-step
returns-in_err-set_owner_of-clause-step g c =
    let p = err_from_is_err_and c.from_residual.result c.from_residual.ensures.1 in
    next_out _ _ _ _ _ _ _ _ _ _ _ _ _ refl p.1 p.2 c.loop-n.invariant.step
    (step_weaken _ _ _ _ _ _ _ (owned_alike c.args.g.now c.args.cat.now c.loop-n.cat (c.loop-n.n - 1) c.loop-n.invariant.so_far) c.in_err-set_owner_of.ensures.step)

pub loop-n-preserved : goal.loop-n-preserved
loop-n-preserved g c =
    let files = c.requires.told.spelt.counts.slots in
    let to : c.loop-n.n ≤ length c.args.cat.now.files = omega (arith, files, c.loop-n-test.true, c.loop-n.auto.n-end) in
    let next : c.loop-n.n ≡ c.loop-n.n + 1 - 1 = omega arith in
    record {
      step = next_well _ _ _ _ _ _ _ _ _ _ _ refl c.loop-n.invariant.step
          (step_weaken _ _ _ _ _ _ _ (owned_alike c.args.g.now c.args.cat.now c.loop-n.cat (c.loop-n.n - 1) c.loop-n.invariant.so_far) c.in_ok-set_owner_of.ensures.step);
      told = c.in_ok-set_owner_of.ensures.told;
      so_far = c.in_ok-set_owner_of.ensures.cat
          ∙ (owned_next c.args.cat.now c.loop-n.cat c.loop-n.n c.loop-n.auto.n to c.loop-n.invariant.so_far ∙ ap (owned_to c.args.cat.now) next);
    }

pub returns-clause-cat : goal.returns-clause-cat
returns-clause-cat g c =
    let files = c.requires.told.spelt.counts.slots in
    let all : c.loop-n.n - 1 ≡ length c.args.cat.now.files = omega (arith, files, c.loop-n.auto.n-end) in
    owned_all c.args.cat.now c.loop-n.cat (c.loop-n.n - 1) all c.loop-n.invariant.so_far
