use Rattle.std.proofs.Common.{arith}
use Rattle.node_seat.specs.Yards.{Kept}
use Rattle.node_seat.proofs.SplitSeat.{splits_allowed}
use Rattle.node_seat.proofs.turns.split_off.Goals as goal

pub split_seat-requires : goal.split_seat-requires
split_seat-requires g c =
    let kept = Kept g.W.Acts.world g.W.Acts.faults g.W.Acts.told in
    (c.requires.table.0, omega (arith, c.requires.table.1), splits_allowed kept c.args.seat.now.id c.args.seat.now.me.0 c.requires.claimed)
