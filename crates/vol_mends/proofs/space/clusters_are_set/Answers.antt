use Rattle.vol_mends.proofs.ClusterBits.{clusters_are_set}
use Rattle.vol_mends.proofs.space.clusters_are_set.Goals as goal

pub returns : goal.returns
returns _ = clusters_are_set
