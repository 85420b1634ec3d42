use Rattle.std.proofs.Common.{subst, sym, arith}
use mathlib.Core.Option.{none}
use Rattle.std.specs.Prelude.{Option}
use Rattle.atomic_table.specs.Table.{Allows, step, Me}
use Rattle.node_seat.specs.declared.parked.Parked.{Parked}
use Rattle.node_seat.specs.declared.views.SeatView.{SeatView}
use Rattle.node_seat.specs.Turns.{Holds, Gives}
use Rattle.node_seat.specs.Yards.{Kept}
use Rattle.node_seat.proofs.GivenTurn.{gives_allowed}
use Rattle.node_seat.proofs.turns.give_turn.Goals as goal

pub swap-requires : goal.swap-requires
swap-requires g c =
    let kept = Kept g.W.Acts.world g.W.Acts.faults g.W.Acts.told in
    let slots = c.args.table.now.shared.table_id.slots in
    let id = c.args.seat.now.id in
    let me = c.args.seat.now.me in
    let h = c.requires.hand in
    let P : Me (Option (Parked g.row.W.Denot)) SeatView → Type 0 = λ m. Allows (Holds kept) slots id m 0 (λ k. 0) (Gives (step slots 0 0 0 none) m) in
    (c.requires.table.0, omega (arith, c.requires.table.1), subst P (λ k. (me.0, sym h.1 k)) (gives_allowed kept slots id 0 me.0 h.0 c.requires.turn.0 c.requires.turn.1 h.2))
