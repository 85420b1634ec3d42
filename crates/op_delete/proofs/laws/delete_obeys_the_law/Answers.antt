use Rattle.op_delete.proofs.Lawful.{delete_lawful}
use Rattle.op_delete.proofs.laws.delete_obeys_the_law.Goals as goal

pub returns : goal.returns
returns c = delete_lawful
