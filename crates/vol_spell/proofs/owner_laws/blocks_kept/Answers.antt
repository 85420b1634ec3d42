use Rattle.vol_spell.proofs.Placing.{blocks_kept}
use Rattle.vol_spell.proofs.owner_laws.blocks_kept.Goals as goal

pub returns : goal.returns
returns c = blocks_kept
