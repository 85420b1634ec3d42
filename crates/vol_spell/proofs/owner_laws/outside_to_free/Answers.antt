use Rattle.vol_spell.proofs.Handing.{outside_to_free}
use Rattle.vol_spell.proofs.owner_laws.outside_to_free.Goals as goal

pub returns : goal.returns
returns c = outside_to_free
