use Rattle.std.proofs.Common.{subst, sym, arith, eqb}
use mathlib.Core.Option.{none}
use Rattle.std.specs.Prelude.{Option}
use prog.Atomic.{either}
use Rattle.atomic_table.specs.Table.{Allows, step, Me}
use Rattle.node_seat.specs.declared.parked.Parked.{Parked}
use Rattle.node_seat.specs.declared.views.SeatView.{SeatView}
use Rattle.node_seat.specs.Turns.{Holds, Takes}
use Rattle.node_seat.specs.Yards.{Kept}
use Rattle.node_seat.proofs.TakenTurn.{takes_allowed}
use Rattle.node_seat.proofs.turns.take_turn.Goals as goal

pub compare_exchange-requires : goal.compare_exchange-requires
compare_exchange-requires g c =
    let kept = Kept g.W.Acts.world g.W.Acts.faults g.W.Acts.told in
    let slots = c.args.table.now.shared.table_id.slots in
    let id = c.args.seat.now.id in
    let n = c.args.number in
    let me = c.args.seat.now.me in
    let P : Me (Option (Parked g.row.W.Denot)) SeatView → Type 0 = λ m. Allows (Holds kept) slots id m 0 (λ k. either (eqb k 0) n k) (Takes kept (step slots 0 0 n none) m) in
    (c.requires.table.0, omega (arith, c.requires.table.1), subst P (λ k. (me.0, sym c.requires.idle.1 k)) (takes_allowed kept slots id n me.0 (sym c.requires.number)))
