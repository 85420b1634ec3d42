use Rattle.std.proofs.Common.{IsTrue}
use Rattle.vol_spell.proofs.Moving.{moves_compose}
use Rattle.vol_spell.proofs.owner_laws.moves_compose.Goals as goal

pub returns : goal.returns
returns c p = moves_compose (λ o. IsTrue (p o))
