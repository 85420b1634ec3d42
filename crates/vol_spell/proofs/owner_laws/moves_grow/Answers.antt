use Rattle.std.proofs.Common.{IsTrue}
use Rattle.vol_spell.proofs.Moving.{moves_grow}
use Rattle.vol_spell.proofs.owner_laws.moves_grow.Goals as goal

pub returns : goal.returns
returns c p r = moves_grow (λ o. IsTrue (p o)) (λ o. IsTrue (r o))
