use Rattle.vol_spell.proofs.Handing.{out_swaps}
use Rattle.vol_spell.proofs.owner_laws.out_swaps.Goals as goal

pub returns : goal.returns
returns c = out_swaps
