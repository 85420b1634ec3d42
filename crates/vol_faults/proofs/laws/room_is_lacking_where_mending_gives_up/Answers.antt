use Rattle.vol_faults.proofs.RoomLemmas.{no-room-once, no-room-exact}
use Rattle.vol_faults.proofs.laws.room_is_lacking_where_mending_gives_up.Goals as goal

pub returns : goal.returns
returns c = record { one = no-room-once; exact = no-room-exact }
