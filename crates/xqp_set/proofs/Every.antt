-- Each command obeys the law.
use Rattle.plain_cat.specs.declared.command.Cmd.{Cmd}
use Rattle.plain_cat.specs.declared.command.Cmd.TheVariants as cmd
use Rattle.op_law.specs.Laws.{Lawful}
use Rattle.op_lookup.proofs.Lawful.{look_lawful}
use Rattle.op_create.proofs.Lawful.{create_lawful}
use Rattle.op_extend.proofs.Either.{size_lawful}
use Rattle.op_delete.proofs.Lawful.{delete_lawful}
use Rattle.op_rename.proofs.Lawful.{rename_lawful}
use Rattle.op_access.proofs.Lawful.{access_lawful}
use Rattle.op_data.proofs.Either.{data_lawful}
use Rattle.op_quota.proofs.Lawful.{quota_lawful}
use Rattle.xqp_set.specs.Built.{IsBuilt}

pub every_lawful : (x : Cmd) → IsBuilt x → Lawful x
every_lawful (cmd.Lookup reg dir name ver) b = look_lawful (cmd.Lookup reg dir name ver) b
every_lawful (cmd.List dir) b = look_lawful (cmd.List dir) b
every_lawful (cmd.Stat file) b = look_lawful (cmd.Stat file) b
every_lawful (cmd.Create reg dir name ver blocks owner) b = create_lawful (cmd.Create reg dir name ver blocks owner) b
every_lawful (cmd.MkDir reg dir name owner) b = create_lawful (cmd.MkDir reg dir name owner) b
every_lawful (cmd.Extend file blocks) b = size_lawful (cmd.Extend file blocks) b
every_lawful (cmd.Trunc file blocks) b = size_lawful (cmd.Trunc file blocks) b
every_lawful (cmd.Delete dir name ver) b = delete_lawful (cmd.Delete dir name ver) b
every_lawful (cmd.Rename dir name ver to to_ver) b = rename_lawful (cmd.Rename dir name ver to to_ver) b
every_lawful (cmd.QuotaSet owner quota over) b = quota_lawful (cmd.QuotaSet owner quota over) b
every_lawful (cmd.QuotaShow owner) b = quota_lawful (cmd.QuotaShow owner) b
every_lawful (cmd.OpenFile chan file mode) b = access_lawful (cmd.OpenFile chan file mode) b
every_lawful (cmd.CloseFile chan) b = access_lawful (cmd.CloseFile chan) b
every_lawful (cmd.ReadBlock chan vbn) b = data_lawful (cmd.ReadBlock chan vbn) b
every_lawful (cmd.WriteBlock chan vbn text) b = data_lawful (cmd.WriteBlock chan vbn text) b
