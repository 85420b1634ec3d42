use Rattle.vol_sound.proofs.Still.{leaves_files}
use Rattle.vol_sound.proofs.Freed.{is_freeing}
use Rattle.vol_sound.proofs.OneSlot.{one_freed}
use Rattle.vol_sound.proofs.laws.slots_are_freed.Goals as goal

pub returns : goal.returns
returns _ = record { one = one_freed; told = is_freeing; blocks = leaves_files }
