use Rattle.op_lookup.proofs.Lawful.{look_lawful}
use Rattle.op_lookup.proofs.operation.OpLookupOperation.of.Goals as goal

pub returns-clause-lawful : goal.returns-clause-lawful
returns-clause-lawful c = look_lawful c.args.cmd c.requires
