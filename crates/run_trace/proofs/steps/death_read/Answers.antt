use Rattle.std.proofs.Common.{◌∙◌, ◌++◌, ap}
use Rattle.run_trace.specs.Steps.{dying_text, last_entry}
use Rattle.run_trace.proofs.Shows.{dying_shown}
use Rattle.run_trace.proofs.steps.death_read.Goals as goal

pub returns : goal.returns
returns g c =
    c.in_ok-push_dying.ensures
    ∙ ((λ i. c.new-text.ensures.items i ++ dying_text (c.last.ensures.value i))
    ∙ (ap (λ es. dying_text (last_entry es)) c.items.ensures
    ∙ (dying_shown c.history.result.now.items ∙ ap (λ h. dying_text (last_entry h)) c.history.ensures)))
