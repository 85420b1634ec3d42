-- Why a volume is not repaired.
use Rattle.std.specs.Prelude.{Result, Ok, Err}
use Rattle.plain_cat.specs.declared.history.Mended.{Mended}
use Rattle.vol_rebuild.specs.declared.fault.RebuildFault.{RebuildFault}
use Rattle.vol_rebuild.specs.declared.fault.RebuildFault.TheVariants as rebuild
use Rattle.vol_repair.specs.declared.fault.StepFault.{StepFault}
use Rattle.vol_repair.specs.declared.fault.StepFault.TheVariants as step
use Rattle.vol_repair.specs.declared.fault.RepairFault.{RepairFault}
use Rattle.vol_repair.specs.declared.fault.RepairFault.TheVariants as fault

-- a fault of a step is one of the whole
abbrev pub as_fault : StepFault → RepairFault
as_fault step.ImageFault = fault.ImageFault
as_fault step.NoMemory = fault.NoMemory

-- what a repair answers when mending has answered so
abbrev pub answer_of : Result Mended RebuildFault → Result Mended RepairFault
answer_of (Ok done) = Ok done
answer_of (Err (rebuild.NotMendable f)) = Err (fault.NoRoom f)
answer_of (Err rebuild.ImageFault) = Err fault.ImageFault
answer_of (Err rebuild.NoMemory) = Err fault.NoMemory
