use Rattle.std.proofs.Common.{sym, subst}
use Rattle.plain_rules.specs.Accounts.{Accounted}
use Rattle.plain_rules.proofs.Kept.{dead_keeps}
use Rattle.plain_vol.proofs.judge.check_death.Goals as goal

pub returns-clause-keeps : goal.returns-clause-keeps
returns-clause-keeps c =
    subst Accounted (sym c.bury.ensures)
    (dead_keeps c.in_ok-after.after c.args.node c.args.clusters c.items-2.result.now (subst Accounted (sym c.in_ok-after.ensures) c.requires))
