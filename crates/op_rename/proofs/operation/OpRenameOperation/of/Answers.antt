use Rattle.op_rename.proofs.Lawful.{rename_lawful}
use Rattle.op_rename.proofs.operation.OpRenameOperation.of.Goals as goal

pub returns-clause-lawful : goal.returns-clause-lawful
returns-clause-lawful c = rename_lawful c.args.cmd c.requires
