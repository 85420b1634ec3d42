use Rattle.std.proofs.Common.{sym, subst, rules}
use Rattle.std.specs.Prelude.{All}
use Rattle.plain_rules.specs.Accounts.{IsCharged}
use Rattle.plain_rules.proofs.accounts.are_charged.Goals as goal

pub returns-then-not-is_charged : goal.returns-then-not-is_charged
returns-then-not-is_charged c = (
  search rules,
  λ all.
      let each : All (IsCharged c.args.cat.now) c.items-row-items.result.now = subst (All (IsCharged c.args.cat.now)) (sym c.items-row-items.ensures) all in
      c.if-not-is_charged.ensures.1 (each c.loop-row.row-index _ c.loop-row-test.true),
)
