use Rattle.std.proofs.Common.{◌∙◌, ◌++◌, ℕ, List, Err, ap, subst}
use Rattle.run_engine.specs.declared.over_mending.Halt.TheVariants as halt
use Rattle.run_engine.proofs.Results.{ok_has, err_is}
use Rattle.run_trace.specs.Inside.{IsRefusedBehind}
use Rattle.run_trace.proofs.Traces.{mended_behind, refused_behind}
use Rattle.run_trace.proofs.endings.with_mending.Goals as goal

pub returns-in-Ok-lines_and-clause-text : goal.returns-in-Ok-lines_and-clause-text
returns-in-Ok-lines_and-clause-text c =
    let lines = c.args.lines.items in
    mended_behind c.args.w.world c.keeps_the_rules.ensures.good c.requires.over lines _ _ c.in-Ok.report.items c.in-Ok-lines_and.all.items
    (ok_has c.mend_over-outcome.result.outcome c.in-Ok.report _ c.in-Ok.is c.mend_over-outcome.ensures.report)
    (c.in-Ok-lines_and.ensures ∙ ap (λ t. lines ++ t) c.as_slice.ensures.value)

pub returns-in-Err-Unmended-clause-halt : goal.returns-in-Err-Unmended-clause-halt
returns-in-Err-Unmended-clause-halt c =
    let lines = c.args.lines.items in
    let found = c.in-Err-Unmended.found in
    refused_behind c.args.w.world c.keeps_the_rules.ensures.good c.requires.over lines _ _ found c.in-Err-Unmended.text.items c.with_refusal.result
    (err_is c.mend_over-outcome.result.outcome (halt.Unmended c.in-Err-Unmended.text found) _ (c.in-Err-Unmended.is ∙ ap Err c.in-Err-Unmended.field-0-is) c.mend_over-outcome.ensures.halt)
    (subst (λ (t : List ℕ). IsRefusedBehind lines t found c.with_refusal.result) c.as_slice-in-Err-Unmended.ensures.value c.with_refusal.ensures)
