-- The fault of a turn as that of a run.
use Rattle.core_step.specs.declared.turns.TurnFault.{TurnFault}
use Rattle.core_step.specs.declared.turns.TurnFault.TheVariants as turn
use Rattle.run_engine.specs.declared.fault.RunFault.{RunFault}
use Rattle.run_engine.specs.declared.fault.RunFault.TheVariants as run

abbrev pub run_fault : TurnFault → RunFault
run_fault turn.ImageFault = run.ImageFault
run_fault turn.NoMemory = run.NoMemory
