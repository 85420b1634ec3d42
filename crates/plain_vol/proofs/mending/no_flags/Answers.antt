use Rattle.std.proofs.Common.{◌∙◌, ◌∷◌, [], ◌++◌, List, Bool, false, ap, sym}
use Rattle.plain_rules.proofs.MendSteps.{same_more}
use Rattle.plain_vol.proofs.mending.no_flags.Goals as goal

pub loop-flag-preserved : goal.loop-flag-preserved
loop-flag-preserved c =
    c.in_ok-push.ensures.ok
    ∙ (ap (λ (fs : List Bool). fs ++ false ∷ []) c.loop-flag.invariant ∙ sym (same_more false c.items-flag-items.result.now c.loop-flag._flag-index c.loop-flag-test.true))
