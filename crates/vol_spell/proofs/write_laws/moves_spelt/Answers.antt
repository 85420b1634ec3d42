use Rattle.vol_spell.proofs.EntryMoves.{moves_spelt}
use Rattle.vol_spell.proofs.write_laws.moves_spelt.Goals as goal

pub returns : goal.returns
returns c = moves_spelt
