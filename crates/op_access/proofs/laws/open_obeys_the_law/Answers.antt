use Rattle.op_access.proofs.OpenLaw.{open_lawful}
use Rattle.op_access.proofs.laws.open_obeys_the_law.Goals as goal

pub returns : goal.returns
returns c = open_lawful
