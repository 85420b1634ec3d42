use Rattle.vol_faults.proofs.Found.{found_some}
use Rattle.vol_faults.proofs.room.first_without_room.Goals as goal

pub returns-in-Some : goal.returns-in-Some
returns-in-Some c = found_some c.args.cat.now c.in_ok-n.field-0 c.in-Some.n c.in_ok-n.ensures c.in-Some.is
