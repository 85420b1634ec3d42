use Rattle.vol_spell.proofs.Placing.{blocks_seen}
use Rattle.vol_spell.proofs.owner_laws.blocks_seen.Goals as goal

pub returns : goal.returns
returns c = blocks_seen
