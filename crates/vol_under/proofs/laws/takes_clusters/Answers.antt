use Rattle.vol_under.proofs.Refills.{takes_clusters}
use Rattle.vol_under.proofs.laws.takes_clusters.Goals as goal

pub returns : goal.returns
returns c = takes_clusters
