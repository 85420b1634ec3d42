-- The law of QUOTASET and QUOTASHOW.
use Rattle.plain_cat.specs.declared.command.Cmd.{Cmd}
use Rattle.plain_cat.specs.declared.command.Cmd.TheVariants as cmd
use Rattle.op_law.specs.Laws.{Lawful}
use Rattle.op_quota.specs.Kinds.{IsQuota}
use Rattle.op_quota.proofs.ShowLaw.{show_lawful}
use Rattle.op_quota.proofs.SetLaw.{set_lawful}

pub quota_lawful : (x : Cmd) → IsQuota x → Lawful x
quota_lawful (cmd.QuotaSet owner quota over) is = set_lawful owner quota over is
quota_lawful (cmd.QuotaShow owner) is = show_lawful owner
quota_lawful other is = absurd is
