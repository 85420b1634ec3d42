use Rattle.vol_spell.proofs.Parts.{are_parts}
use Rattle.vol_spell.proofs.laws.parts_lie_apart.Goals as goal

pub returns : goal.returns
returns c = are_parts
