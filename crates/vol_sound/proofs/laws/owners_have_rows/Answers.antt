use Rattle.vol_sound.proofs.Rowed.{each_rowed}
use Rattle.vol_sound.proofs.laws.owners_have_rows.Goals as goal

pub returns : goal.returns
returns _ = each_rowed
