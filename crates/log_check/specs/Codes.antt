-- The numbers of the statuses.
use Rattle.std.specs.Prelude.{ℕ}
use Rattle.log_check.specs.declared.status.CheckStatus.{CheckStatus}
use Rattle.log_check.specs.declared.status.CheckStatus.TheVariants as status

abbrev pub status_code : CheckStatus → ℕ
status_code (status.Legal k) = 0
status_code status.BadWords = 1
status_code status.LogFault = 2
status_code status.LogTooLong = 2
status_code status.ImageFault = 4
status_code (status.BadSize n) = 4
status_code (status.NotAccepted f) = 5
status_code (status.NotMendable f) = 5
status_code (status.Unchecked k) = 5
status_code (status.Illegal k) = 5
status_code status.EndDiffers = 5
status_code status.OutFault = 6
status_code status.NoMemory = 7
