use Rattle.vol_spell.proofs.Counting.{counts_list}
use Rattle.vol_spell.proofs.owner_laws.counts_list.Goals as goal

pub returns : goal.returns
returns c = counts_list
