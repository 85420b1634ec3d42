use Rattle.vol_spell.proofs.Placing.{blocks_written}
use Rattle.vol_spell.proofs.owner_laws.blocks_written.Goals as goal

pub returns : goal.returns
returns c = blocks_written
