-- The mark that goes with the end of a run.
use Rattle.std.specs.Prelude.{Option, Some, None, Result, Ok, Err}
use Rattle.core_step.specs.declared.turns.TurnFault.{TurnFault}
use Rattle.core_step.specs.declared.turns.TurnFault.TheVariants as turn
use Rattle.run_engine.specs.declared.fault.RunFault.{RunFault}
use Rattle.run_engine.specs.declared.fault.RunFault.TheVariants as run

abbrev pub fault_mark : RunFault → Option TurnFault
fault_mark run.ImageFault = Some turn.ImageFault
fault_mark run.NoMemory = Some turn.NoMemory

abbrev pub run_mark : {A : Type 0} → Result A RunFault → Option TurnFault
run_mark (Ok a) = None
run_mark (Err f) = fault_mark f
