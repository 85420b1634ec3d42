use Rattle.op_steps.proofs.Endings.{rising_clusters}
use Rattle.op_steps.proofs.freeing_laws.rising_clusters.Goals as goal

pub returns : goal.returns
returns c = rising_clusters
