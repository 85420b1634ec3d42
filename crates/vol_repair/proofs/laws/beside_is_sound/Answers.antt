use Rattle.vol_repair.proofs.Besides.{beside_is_sound}
use Rattle.vol_repair.proofs.laws.beside_is_sound.Goals as goal

pub returns : goal.returns
returns _ = beside_is_sound
