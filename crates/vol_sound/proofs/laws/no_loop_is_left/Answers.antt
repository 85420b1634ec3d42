use Rattle.vol_sound.proofs.Unlooped.{no_loop_is_left}
use Rattle.vol_sound.proofs.laws.no_loop_is_left.Goals as goal

pub returns : goal.returns
returns _ = no_loop_is_left
