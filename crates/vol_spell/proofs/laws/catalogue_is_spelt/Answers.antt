use Rattle.vol_spell.proofs.Accepted.{catalogue_is_spelt}
use Rattle.vol_spell.proofs.laws.catalogue_is_spelt.Goals as goal

pub returns : goal.returns
returns c = catalogue_is_spelt
