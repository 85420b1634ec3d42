use Rattle.std.proofs.Common.{◌≡◌, ◌+◌, ◌∙◌, true, false, refl, sym, ap, arith}
use Rattle.std.proofs.lemmas.Result.{err_from_is_err_and}
use Rattle.std.specs.Prelude.{slice_index_or}
use Rattle.plain_rules.specs.Mending.{enter_all}
use Rattle.vol_rebuild.proofs.Stepping.{next_well, next_out}
use Rattle.vol_rebuild.proofs.Looping.{can_full, full_on, rest_at}
use Rattle.vol_rebuild.proofs.lost.enter_full.Goals as goal
use Rattle.vol_rebuild.proofs.lost.enter_full.Goals.{then-branch, else-branch}

pub enter-requires-clause-change : goal.enter-requires-clause-change
enter-requires-clause-change g c =
    can_full c.loop-n.cat (slice_index_or c.args.numbers.now c.loop-n.n-index 0) _ c.loop-n.invariant.settled (sym c.loop-n.invariant.left ∙ rest_at c.args.numbers.now c.loop-n.n-index c.loop-n-test.true)

pub returns-in_err-enter-clause-step : goal.returns-in_err-enter-clause-step
returns-in_err-enter-clause-step g c =
    let p = err_from_is_err_and c.from_residual.result c.from_residual.ensures.1 in
    next_out _ _ _ _ _ _ _ _ _ _ _ _ _ refl p.1 p.2 c.loop-n.invariant.step c.in_err-enter.ensures.step

pub loop-n-preserved : goal.loop-n-preserved
loop-n-preserved g c =
    let n = slice_index_or c.args.numbers.now c.loop-n.n-index 0 in
    let rest = rest_at c.args.numbers.now c.loop-n.n-index c.loop-n-test.true in
    let ok = c.in_ok-enter.ensures.ok in
    let on = full_on c.args.g.now c.loop-n.m.blocks c.loop-n.cat c.enter.new.cat n _ c.in_ok-enter.field-0 c.loop-n.invariant.told c.loop-n.invariant.settled c.loop-n.invariant.written (sym c.loop-n.invariant.left ∙ rest) ok.enters in
    let count : c.if-branch.count ≡ c.loop-n.count + 1 = elim c.if-branch.branch [ then-branch w ↦ w.count-is | else-branch w ↦ absurd (let k : true ≡ false = sym on.entered ∙ w.if-branch.false in cc k) ] in
    record {
      step = next_well _ _ _ _ _ _ _ _ _ _ _ refl c.loop-n.invariant.step c.in_ok-enter.ensures.step;
      told = ok.told;
      settled = on.settled;
      written = on.written;
      left = sym on.left;
      others = on.others ∙ c.loop-n.invariant.others;
      entered = on.all ∙ (ap (λ ks. enter_all ks c.loop-n.cat) (sym rest) ∙ c.loop-n.invariant.entered);
      counted = (let a = on.counted in let b = c.loop-n.invariant.counted in omega (arith, a, b, count));
      few = (let b = c.loop-n.invariant.few in omega (arith, b, count));
      files = on.files ∙ c.loop-n.invariant.files;
      singles = λ i is h. ok.singles i is (c.loop-n.invariant.singles i is h);
    }
