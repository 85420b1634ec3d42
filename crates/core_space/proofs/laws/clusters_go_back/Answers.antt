use Rattle.core_space.proofs.Given.{clusters_go_back}
use Rattle.core_space.proofs.laws.clusters_go_back.Goals as goal

pub returns : goal.returns
returns c = clusters_go_back
