use Rattle.vol_spell.proofs.Counting.{out_counts}
use Rattle.vol_spell.proofs.owner_laws.out_counts.Goals as goal

pub returns : goal.returns
returns c = out_counts
