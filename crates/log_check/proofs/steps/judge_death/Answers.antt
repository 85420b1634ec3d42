use Rattle.std.proofs.Common.{◌∙◌, sym, arith}
use Rattle.std.proofs.lemmas.Bool.{both_ways}
use Rattle.log_check.proofs.Entries.{untold_says, untold_stops}
use Rattle.log_check.proofs.steps.judge_death.Goals as goal

pub returns-then-starts_so : goal.returns-then-starts_so
returns-then-starts_so c = untold_says c.args.i c.args.text.now c.as_slice.result.now c.args.death c.requires.node (omega arith) (omega arith) (sym c.is_told.ensures ∙ c.if-is_told.false) (c.as_slice.ensures.value ∙ c.in_ok-line.ensures) (c.starts_so.ensures.rest c.if-starts_so.true)

pub returns : goal.returns
returns c = untold_stops c.args.i c.args.cat c.args.text.now c.as_slice.result.now c.args.death (sym c.is_told.ensures ∙ c.if-is_told.false) (c.as_slice.ensures.value ∙ c.in_ok-line.ensures) (λ b. both_ways c.starts_so.result c.if-starts_so.false (c.starts_so.ensures.begins.1 b))
