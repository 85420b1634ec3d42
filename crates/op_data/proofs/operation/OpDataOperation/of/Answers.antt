use Rattle.op_data.proofs.Either.{data_lawful}
use Rattle.op_data.proofs.operation.OpDataOperation.of.Goals as goal

pub returns-clause-lawful : goal.returns-clause-lawful
returns-clause-lawful c = data_lawful c.args.cmd c.requires
