use Rattle.std.proofs.Common.{IsTrue}
use Rattle.vol_spell.proofs.Moving.{owner_stays}
use Rattle.vol_spell.proofs.owner_laws.owner_stays.Goals as goal

pub returns : goal.returns
returns c p = owner_stays (λ o. IsTrue (p o))
