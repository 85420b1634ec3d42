-- Why a volume is not mended.
use Rattle.vol_rebuild.specs.declared.fault.StepFault.{StepFault}
use Rattle.vol_rebuild.specs.declared.fault.StepFault.TheVariants as step
use Rattle.vol_rebuild.specs.declared.fault.RebuildFault.{RebuildFault}
use Rattle.vol_rebuild.specs.declared.fault.RebuildFault.TheVariants as rebuild

-- a fault of a step is one of the whole
abbrev pub as_fault : StepFault → RebuildFault
as_fault step.ImageFault = rebuild.ImageFault
as_fault step.NoMemory = rebuild.NoMemory
