use Rattle.vol_parts.specs.Volumes.{volume}
use Rattle.vol_sound.proofs.NoneBeyond.{has_system}
use Rattle.vol_sound.proofs.laws.fixed_parts_are_right.Goals as goal

pub returns : goal.returns
returns c = λ home bs within none. has_system (volume home bs) within none
