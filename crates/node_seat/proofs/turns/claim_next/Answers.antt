use Rattle.std.proofs.Common.{arith}
use Rattle.node_seat.specs.Yards.{Kept}
use Rattle.node_seat.proofs.ClaimedNode.{claims_allowed}
use Rattle.node_seat.proofs.turns.claim_next.Goals as goal

pub compare_exchange-requires : goal.compare_exchange-requires
compare_exchange-requires g c =
    let kept = Kept g.W.Acts.world g.W.Acts.faults g.W.Acts.told in
    let me = c.args.seat.now.me in
    (c.requires.table.0, omega (arith, c.requires.table.1), claims_allowed kept c.args.table.now.shared.table_id.slots c.args.seat.now.id c.args.made me.0 me.1 c.requires.own.0 c.requires.own.2 c.requires.own.3)
