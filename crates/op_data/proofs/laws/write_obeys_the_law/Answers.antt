use Rattle.op_data.proofs.WriteLawful.{write_lawful}
use Rattle.op_data.proofs.laws.write_obeys_the_law.Goals as goal

pub returns : goal.returns
returns c = write_lawful
