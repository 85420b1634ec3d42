use Rattle.op_steps.proofs.Endings.{clusters_free}
use Rattle.op_steps.proofs.freeing_laws.clusters_free.Goals as goal

pub returns : goal.returns
returns c = clusters_free
