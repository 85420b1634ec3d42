-- The commands that the operations take.
use Rattle.plain_cat.specs.declared.command.Cmd.{Cmd}
use Rattle.plain_cat.specs.declared.command.Cmd.TheVariants as cmd
use Rattle.op_lookup.specs.Kinds.{IsLook}
use Rattle.op_create.specs.Kinds.{IsMake}
use Rattle.op_quota.specs.Kinds.{IsQuota}
use Rattle.op_access.specs.Kinds.{IsAccess}
use Rattle.op_data.specs.Kinds.{MovesData}
use Rattle.op_extend.specs.Kinds.{ChangesSize}
use Rattle.op_delete.specs.Kinds.{IsDelete}
use Rattle.op_rename.specs.Kinds.{IsRename}
use Rattle.xqp_set.specs.declared.set.XqpOp.{XqpOp}
use Rattle.xqp_set.specs.declared.set.XqpOp.TheVariants.{Lookup, Create, Extend, Delete, Rename, Access, Data, Quota}

-- each command, as its operation takes it
abbrev pub IsBuilt : Cmd → Type 0
IsBuilt (cmd.Lookup reg dir name ver) = IsLook (cmd.Lookup reg dir name ver)
IsBuilt (cmd.List dir) = IsLook (cmd.List dir)
IsBuilt (cmd.Stat file) = IsLook (cmd.Stat file)
IsBuilt (cmd.Create reg dir name ver blocks owner) = IsMake (cmd.Create reg dir name ver blocks owner)
IsBuilt (cmd.MkDir reg dir name owner) = IsMake (cmd.MkDir reg dir name owner)
IsBuilt (cmd.Extend file blocks) = ChangesSize (cmd.Extend file blocks)
IsBuilt (cmd.Trunc file blocks) = ChangesSize (cmd.Trunc file blocks)
IsBuilt (cmd.Delete dir name ver) = IsDelete (cmd.Delete dir name ver)
IsBuilt (cmd.Rename dir name ver to to_ver) = IsRename (cmd.Rename dir name ver to to_ver)
IsBuilt (cmd.QuotaSet owner quota over) = IsQuota (cmd.QuotaSet owner quota over)
IsBuilt (cmd.QuotaShow owner) = IsQuota (cmd.QuotaShow owner)
IsBuilt (cmd.OpenFile chan file mode) = IsAccess (cmd.OpenFile chan file mode)
IsBuilt (cmd.CloseFile chan) = IsAccess (cmd.CloseFile chan)
IsBuilt (cmd.ReadBlock chan vbn) = MovesData (cmd.ReadBlock chan vbn)
IsBuilt (cmd.WriteBlock chan vbn text) = MovesData (cmd.WriteBlock chan vbn text)

-- the command of an operation
abbrev pub command_of : XqpOp → Cmd
command_of (Lookup cmd) = cmd
command_of (Create cmd) = cmd
command_of (Extend cmd) = cmd
command_of (Delete cmd) = cmd
command_of (Rename cmd) = cmd
command_of (Access cmd) = cmd
command_of (Data cmd) = cmd
command_of (Quota cmd) = cmd
