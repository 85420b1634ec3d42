use Rattle.vol_spell.proofs.Handing.{hands_over}
use Rattle.vol_spell.proofs.owner_laws.hands_over.Goals as goal

pub returns : goal.returns
returns c = hands_over
