use Rattle.vol_spell.proofs.Counting.{handing_counts}
use Rattle.vol_spell.proofs.owner_laws.handing_counts.Goals as goal

pub returns : goal.returns
returns c = handing_counts
