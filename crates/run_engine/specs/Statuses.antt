-- The numbers of the statuses.
use Rattle.std.specs.Prelude.{ℕ}
use Rattle.run_engine.specs.declared.status.Status.{Status}
use Rattle.run_engine.specs.declared.status.Status.TheVariants as status

-- the number with which the program ends
abbrev pub status_code : Status → ℕ
status_code status.Ok = 0
status_code status.BadWords = 1
status_code status.ScriptFault = 2
status_code status.ScriptTooLong = 2
status_code (status.BadScript n) = 3
status_code status.TooMany = 3
status_code status.ImageFault = 4
status_code (status.BadSize n) = 4
status_code (status.NotAccepted f) = 5
status_code status.Findings = 5
status_code (status.NotMendable f) = 5
status_code status.OutFault = 6
status_code status.NoMemory = 7
status_code (status.BadInit f) = 9
status_code (status.BadRecord at) = 10
status_code status.NoFile = 11
status_code (status.LineLong k) = 11
status_code status.NoPriv = 11
status_code status.NotEmpty = 11
status_code status.NoRoom = 11
status_code (status.NotRepairable f) = 12
status_code (status.RepairNoRoom f) = 12
