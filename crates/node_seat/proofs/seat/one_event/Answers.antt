use Rattle.std.proofs.Common.{◌≡◌, ◌≤◌, ℕ, sym, ap, subst, ◌∙◌, Some, [], ◌∷◌, List}
use Rattle.std.specs.Prelude.{Option}
use Rattle.atomic_table.specs.Table.{Me}
use Rattle.node_seat.specs.declared.parked.Parked.{Parked}
use Rattle.node_seat.specs.declared.views.SeatView.{SeatView}
use Rattle.plain_cat.specs.declared.script.Script.{Script}
use Rattle.node_seat.specs.Yards.{IsKeptBy, Kept}
use Rattle.node_seat.proofs.Reaching.{reached_follows}
use Rattle.node_seat.proofs.seat.one_event.Goals as goal

abbrev first_value : {S : Type 0} → S → List (ℕ × S) → S
first_value d [] = d
first_value d (p ∷ ps) = p.1

-- the value of a list of one slot
one_value : {S : Type 0} (x y z : S) → ◌≡◌ {A = List (ℕ × S)} ((0, x) ∷ []) ((0, y) ∷ []) → y ≡ z → x ≡ z
one_value x y z e f = ap (first_value x) e ∙ f

-- the world in hand has the script of the start
pub event_of-told-requires-clause-to : goal.event_of-told-requires-clause-to
event_of-told-requires-clause-to g c =
    let W = Parked g.row.W.Denot in
    let kept = Kept g.W.Acts.world g.W.Acts.faults g.W.Acts.told in
    let start = c.args.seat.now.me.0.start in
    let h = c.requires.hand in
    let pair : ◌≡◌ {A = List (ℕ × Option W)} ((0, h.0) ∷ []) ((0, c.exchange_world.result) ∷ []) = sym h.1 ∙ c.exchange_world.ensures.old in
    let it : h.0 ≡ Some c.in-Some.parked = one_value h.0 c.exchange_world.result (Some c.in-Some.parked) pair c.in-Some.is in
    let P : Option W → Type 0 = λ x. kept start x in
    let k : IsKeptBy g.W.Acts.world g.W.Acts.faults g.W.Acts.told start c.in-Some.parked = subst P it h.2 in
    let Q : Script → Type 0 = λ s. c.args.node ≤ s.nodes in
    subst Q (sym (reached_follows start.world (g.W.Acts.world c.in-Some.parked.world) k.reached).script) c.requires.node.1

pub give_turn-requires-clause-hand : goal.give_turn-requires-clause-hand
give_turn-requires-clause-hand g c =
    let W = Parked g.row.W.Denot in
    let kept = Kept g.W.Acts.world g.W.Acts.faults g.W.Acts.told in
    let me = c.args.seat.now.me in
    let h = c.requires.hand in
    let pair : ◌≡◌ {A = List (ℕ × Option W)} ((0, h.0) ∷ []) ((0, c.exchange_world.result) ∷ []) = sym h.1 ∙ c.exchange_world.ensures.old in
    let it : h.0 ≡ Some c.in-Some.parked = one_value h.0 c.exchange_world.result (Some c.in-Some.parked) pair c.in-Some.is in
    let P : Option W → Type 0 = λ x. kept me.0.start x in
    let after = c.event_of-told.ensures.kept me.0.start (subst P it h.2) in
    let view : c.exchange_world-2.new.seat.me.0 ≡ me.0 = ap (λ (m : Me (Option W) SeatView). m.0) c.exchange_world-2.ensures.same.2 ∙ ap (λ (m : Me (Option W) SeatView). m.0) c.exchange_world.ensures.same.2 in
    let Q : SeatView → Type 0 = λ v. kept v.start (Some c.event_of-told.new.parked) in
    (Some c.event_of-told.new.parked, ap (λ (m : Me (Option W) SeatView). m.1) c.exchange_world-2.ensures.same.2, subst Q (sym view) after)
