use Rattle.vol_spell.proofs.Adds.{clusters_add_up}
use Rattle.vol_spell.proofs.laws.clusters_add_up.Goals as goal

pub returns : goal.returns
returns c = clusters_add_up
