use Rattle.op_extend.proofs.Either.{size_lawful}
use Rattle.op_extend.proofs.operation.OpExtendOperation.of.Goals as goal

pub returns-clause-lawful : goal.returns-clause-lawful
returns-clause-lawful c = size_lawful c.args.cmd c.requires
