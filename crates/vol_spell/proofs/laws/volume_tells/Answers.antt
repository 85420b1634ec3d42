use Rattle.vol_spell.proofs.Told.{volume_tells}
use Rattle.vol_spell.proofs.laws.volume_tells.Goals as goal

pub returns : goal.returns
returns c = volume_tells
