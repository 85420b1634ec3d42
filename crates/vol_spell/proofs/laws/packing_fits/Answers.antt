use Rattle.vol_spell.proofs.Packing.{packing_fits}
use Rattle.vol_spell.proofs.laws.packing_fits.Goals as goal

pub returns : goal.returns
returns c = packing_fits
