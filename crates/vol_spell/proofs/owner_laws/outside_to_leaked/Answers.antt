use Rattle.vol_spell.proofs.Handing.{outside_to_leaked}
use Rattle.vol_spell.proofs.owner_laws.outside_to_leaked.Goals as goal

pub returns : goal.returns
returns c = outside_to_leaked
