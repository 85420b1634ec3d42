use Rattle.std.proofs.Common.{arith}
use Rattle.node_seat.proofs.Perches.{gets_up}
use Rattle.node_seat.proofs.perch.get_up.Goals as goal

pub swap_new_mark-seat-requires : goal.swap_new_mark-seat-requires
swap_new_mark-seat-requires g c = (omega arith, gets_up)
