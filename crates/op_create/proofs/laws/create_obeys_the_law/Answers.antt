use Rattle.op_create.proofs.Lawful.{create_lawful}
use Rattle.op_create.proofs.laws.create_obeys_the_law.Goals as goal

pub returns : goal.returns
returns c = create_lawful
