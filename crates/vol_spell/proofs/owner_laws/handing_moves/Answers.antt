use Rattle.std.proofs.Common.{IsTrue}
use Rattle.vol_spell.proofs.Handing.{handing_moves}
use Rattle.vol_spell.proofs.owner_laws.handing_moves.Goals as goal

pub returns : goal.returns
returns c p = handing_moves (λ o. IsTrue (p o))
