use Rattle.vol_under.proofs.Refills.{gives_clusters}
use Rattle.vol_under.proofs.laws.gives_clusters.Goals as goal

pub returns : goal.returns
returns c = gives_clusters
