use Rattle.std.proofs.Common.{◌-◌, ◌∙◌, ℕ, length, sym, ap, subst, arith}
use Rattle.std.specs.Prelude.{List, [], Bool}
use Rattle.vol_repair.specs.Reached.{AreRows, passed}
use Rattle.vol_repair.proofs.Flagged.{first_rows, next_passed}
use Rattle.vol_repair.proofs.reaching.all_ways.Goals as goal

pub loop-i-init : goal.loop-i-init
loop-i-init c = subst (λ (rs : List (List Bool)). AreRows c.args.cat.now [] rs) (sym c.in_ok-rows.ensures) (first_rows c.args.cat.now)

pub loop-i-preserved : goal.loop-i-preserved
loop-i-preserved c =
    let len = ap length c.items-count.ensures in
    let test = c.loop-i-test.true in
    next_passed c.args.cat.now c.loop-i.i c.loop-i.rows.items _ (omega (arith, len, test)) c.loop-i.invariant
    (c.in_ok-pass.ensures ∙ ap (λ (k : ℕ). passed (k - c.loop-i.i) c.loop-i.rows.items) len)
