use Rattle.std.proofs.Common.{◌∙◌, sym, ap}
use Rattle.plain_cat.specs.declared.script.Script.{Script}
use Rattle.core_death.proofs.Naming.{none_due}
use Rattle.core_death.proofs.seats.is_due.Goals as goal

pub returns-then-not-is_named : goal.returns-then-not-is_named
returns-then-not-is_named g c =
    none_due c.args.w.now.world c.args.node c.items-kills.result.now (c.items-kills.ensures ∙ ap (λ (s : Script). s.kills) c.script.ensures) (sym c.is_named.ensures ∙ c.if-not-is_named.true)
