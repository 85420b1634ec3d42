-- EXTEND and TRUNC obey the law, whichever it is.
use Rattle.plain_cat.specs.declared.command.Cmd.{Cmd}
use Rattle.plain_cat.specs.declared.command.Cmd.TheVariants as cmd
use Rattle.op_law.specs.Laws.{Lawful}
use Rattle.op_extend.specs.Kinds.{ChangesSize}
use Rattle.op_extend.proofs.Lawful.{extend_lawful}
use Rattle.op_extend.proofs.TruncLawful.{trunc_lawful}

pub size_lawful : (x : Cmd) → ChangesSize x → Lawful x
size_lawful (cmd.Extend file blocks) is = extend_lawful (cmd.Extend file blocks) is
size_lawful (cmd.Trunc file blocks) is = trunc_lawful (cmd.Trunc file blocks) is
size_lawful other is = absurd is
