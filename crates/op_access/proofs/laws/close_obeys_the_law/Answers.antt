use Rattle.op_access.proofs.Lawful.{close_lawful}
use Rattle.op_access.proofs.laws.close_obeys_the_law.Goals as goal

pub returns : goal.returns
returns c = close_lawful
