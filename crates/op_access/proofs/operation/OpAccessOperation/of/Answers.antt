use Rattle.op_access.proofs.Lawful.{access_lawful}
use Rattle.op_access.proofs.operation.OpAccessOperation.of.Goals as goal

pub returns-clause-lawful : goal.returns-clause-lawful
returns-clause-lawful c = access_lawful c.args.cmd c.requires
