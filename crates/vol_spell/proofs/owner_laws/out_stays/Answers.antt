use Rattle.std.proofs.Common.{IsTrue}
use Rattle.vol_spell.proofs.Moving.{out_stays}
use Rattle.vol_spell.proofs.owner_laws.out_stays.Goals as goal

pub returns : goal.returns
returns c p = out_stays (λ o. IsTrue (p o))
