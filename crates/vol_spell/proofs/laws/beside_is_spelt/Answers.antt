use Rattle.vol_spell.proofs.Accepted.{beside_is_spelt}
use Rattle.vol_spell.proofs.laws.beside_is_spelt.Goals as goal

pub returns : goal.returns
returns c = beside_is_spelt
