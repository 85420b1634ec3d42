use Rattle.op_create.proofs.Lawful.{create_lawful}
use Rattle.op_create.proofs.operation.OpCreateOperation.of.Goals as goal

pub returns-clause-lawful : goal.returns-clause-lawful
returns-clause-lawful c = create_lawful c.args.cmd c.requires
