-- The commands on quotas.
use Rattle.std.specs.Prelude.{◌≡◌, ◌&&◌, true}
use Rattle.plain_cat.specs.InForm.{is_owner, is_quota}
use Rattle.plain_cat.specs.declared.command.Cmd.{Cmd}
use Rattle.plain_cat.specs.declared.command.Cmd.TheVariants.{QuotaSet, QuotaShow}

-- a QUOTASET with owner, quota and overdraft in form, or a QUOTASHOW
abbrev pub IsQuota : Cmd → Type 0
IsQuota (QuotaSet owner quota over) = (is_owner owner && (is_quota quota && is_quota over)) ≡ true
IsQuota (QuotaShow owner) = Unit {0}
IsQuota other = ⊥
