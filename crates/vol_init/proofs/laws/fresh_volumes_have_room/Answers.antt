use Rattle.vol_init.proofs.Room.{clusters_free, numbers_free}
use Rattle.vol_init.proofs.laws.fresh_volumes_have_room.Goals as goal

pub returns : goal.returns
returns c = record { clusters = clusters_free; numbers = numbers_free }
