use Rattle.op_delete.proofs.Lawful.{delete_lawful}
use Rattle.op_delete.proofs.operation.OpDeleteOperation.of.Goals as goal

pub returns-clause-lawful : goal.returns-clause-lawful
returns-clause-lawful c = delete_lawful c.args.cmd c.requires
