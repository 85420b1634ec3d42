use Rattle.op_extend.proofs.Lawful.{extend_lawful}
use Rattle.op_extend.proofs.laws.extend_obeys_the_law.Goals as goal

pub returns : goal.returns
returns c = extend_lawful
