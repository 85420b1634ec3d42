use Rattle.std.proofs.Common.{◌≡◌, ◌≤◌, ◌+◌, ◌∙◌, cond, ℕ, refl, sym, ap, subst, arith}
use Rattle.std.proofs.lemmas.Result.{err_from_is_err_and}
use Rattle.std.specs.Prelude.{slice_index_or, List}
use Rattle.plain_rules.specs.Mending.{enter_some}
use Rattle.vol_rebuild.specs.Steps.{AreSkipped}
use Rattle.vol_rebuild.proofs.Stepping.{next_well, next_out}
use Rattle.vol_rebuild.proofs.Looping.{can_empty, either_on, rest_at}
use Rattle.vol_rebuild.proofs.lost.enter_empty.Goals as goal
use Rattle.vol_rebuild.proofs.lost.enter_empty.Goals.{then-branch, else-branch}

pub enter-requires-clause-change : goal.enter-requires-clause-change
enter-requires-clause-change g c =
    let rest = rest_at c.args.numbers.now c.loop-n.n-index c.loop-n-test.true in
    can_empty c.args.g.now c.loop-n.m.blocks c.loop-n.cat (slice_index_or c.args.numbers.now c.loop-n.n-index 0) _ c.loop-n.invariant.told c.loop-n.invariant.settled c.loop-n.invariant.none
    (subst (λ (ks : List ℕ). AreSkipped c.loop-n.cat ks) rest c.loop-n.invariant.left)

pub returns-in_err-enter-clause-step : goal.returns-in_err-enter-clause-step
returns-in_err-enter-clause-step g c =
    let p = err_from_is_err_and c.from_residual.result c.from_residual.ensures.1 in
    next_out _ _ _ _ _ _ _ _ _ _ _ _ _ refl p.1 p.2 c.loop-n.invariant.step c.in_err-enter.ensures.step

pub loop-n-preserved : goal.loop-n-preserved
loop-n-preserved g c =
    let n = slice_index_or c.args.numbers.now c.loop-n.n-index 0 in
    let rest = rest_at c.args.numbers.now c.loop-n.n-index c.loop-n-test.true in
    let ok = c.in_ok-enter.ensures.ok in
    let both = either_on c.args.g.now c.loop-n.m.blocks c.loop-n.cat c.enter.new.cat n _ c.in_ok-enter.field-0 c.loop-n.invariant.told c.loop-n.invariant.settled c.loop-n.invariant.written c.loop-n.invariant.none
    (subst (λ (ks : List ℕ). AreSkipped c.loop-n.cat ks) rest c.loop-n.invariant.left) ok.enters in
    let on = both.0 in
    let count : (c.if-branch.count ≡ c.loop-n.count + cond c.in_ok-enter.field-0 1 0) × (c.if-branch.count ≤ c.loop-n.count + 1) = elim c.if-branch.branch [
      | then-branch w ↦ (w.count-is ∙ ap (λ b. c.loop-n.count + cond b 1 0) (sym w.if-branch.true), (let k = w.count-is in omega (arith, k)))
      | else-branch w ↦ (w.count-is ∙ ((let z : c.loop-n.count ≡ c.loop-n.count + 0 = omega arith in z) ∙ ap (λ b. c.loop-n.count + cond b 1 0) (sym w.if-branch.false)), (let k = w.count-is in omega (arith, k)))
    ] in
    record {
      step = next_well _ _ _ _ _ _ _ _ _ _ _ refl c.loop-n.invariant.step c.in_ok-enter.ensures.step;
      told = ok.told;
      settled = on.settled;
      written = on.written;
      none = on.none;
      left = on.left;
      entered = on.all ∙ (ap (λ ks. enter_some ks c.loop-n.cat) (sym rest) ∙ c.loop-n.invariant.entered);
      counted = (let a = both.1 in let b = c.loop-n.invariant.counted in let k = count.0 in omega (arith, a, b, k));
      few = (let b = c.loop-n.invariant.few in let k = count.1 in omega (arith, b, k));
      files = on.files ∙ c.loop-n.invariant.files;
      singles = λ i is h. ok.singles i is (c.loop-n.invariant.singles i is h);
    }
