use Rattle.std.proofs.Common.{◌≡◌, ◌+◌, ◌++◌, drop}
use Rattle.dlm_core.specs.declared.rules.BlockRule.TheVariants.{OfAll}
use Rattle.dlm_core.specs.States.{start}
use Rattle.dlm_run.specs.Printing.{lines_text}
use Rattle.dlm_run.proofs.playing.play.Given as goal

abbrev pub invariant-loop-e : goal.invariant-loop-e
invariant-loop-e l = record { number : l.k ≡ l.e-index + 1; text : l.out.items ++ lines_text l.k l.dlm (drop l.e-index l.events) ≡ lines_text 1 (start OfAll l.nodes) l.events }
