use Rattle.op_data.proofs.ReadLawful.{read_lawful}
use Rattle.op_data.proofs.laws.read_obeys_the_law.Goals as goal

pub returns : goal.returns
returns c = read_lawful
