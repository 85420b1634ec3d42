use Rattle.op_rename.proofs.Lawful.{rename_lawful}
use Rattle.op_rename.proofs.laws.rename_obeys_the_law.Goals as goal

pub returns : goal.returns
returns c = rename_lawful
