-- READ and WRITE obey the law, whichever it is.
use Rattle.plain_cat.specs.declared.command.Cmd.{Cmd}
use Rattle.plain_cat.specs.declared.command.Cmd.TheVariants as cmd
use Rattle.op_law.specs.Laws.{Lawful}
use Rattle.op_data.specs.Kinds.{MovesData}
use Rattle.op_data.proofs.ReadLawful.{read_lawful}
use Rattle.op_data.proofs.WriteLawful.{write_lawful}

pub data_lawful : (x : Cmd) → MovesData x → Lawful x
data_lawful (cmd.ReadBlock chan vbn) is = read_lawful (cmd.ReadBlock chan vbn) is
data_lawful (cmd.WriteBlock chan vbn text) is = write_lawful (cmd.WriteBlock chan vbn text) is
data_lawful other is = absurd is
