use Rattle.std.proofs.Common.{◌∙◌, ◌∷◌, [], ◌++◌, List, Option, None, ap, sym}
use Rattle.plain_cat.specs.declared.cat.Open.{Open}
use Rattle.plain_rules.proofs.MendSteps.{same_more}
use Rattle.log_check.proofs.shutting.closed.Goals as goal

pub loop-held-preserved : goal.loop-held-preserved
loop-held-preserved c =
    c.in_ok-push.ensures.ok
    ∙ (ap (λ (os : List (Option Open)). os ++ None ∷ []) c.loop-held.invariant ∙ sym (same_more None c.items-held-items.result.now c.loop-held._held-index c.loop-held-test.true))
