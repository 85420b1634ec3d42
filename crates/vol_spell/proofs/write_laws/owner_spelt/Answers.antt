use Rattle.vol_spell.proofs.HeadOwners.{owner_spelt}
use Rattle.vol_spell.proofs.write_laws.owner_spelt.Goals as goal

pub returns : goal.returns
returns c = owner_spelt
