use Rattle.std.proofs.Common.{◌<◌, length, arith, ap}
use Rattle.lock_db.specs.Queues.{without}
use Rattle.lock_db.proofs.Owners.{length-without}
use Rattle.lock_db.proofs.askers.Askers.stand_last.Goals as goal

pub push_reserved-requires : goal.push_reserved-requires
push_reserved-requires c =
    let old = c.self.inside.list in
    let new = c.retain_others.new.list in
    let fewer : length (without c.args.owner old.items) < length old.items = rw c.self.view_is (length-without c.args.owner c.args.self.now c.requires) in
    omega (arith, old.ok.0, old.ok.1, new.ok.0, ap length c.retain_others.ensures.items, c.retain_others.ensures.capacity, fewer)
