-- Giving the turn keeps the rule.
use Rattle.std.proofs.Common.{◌≡◌, ℕ, true, false, List, [], ◌∷◌, Option, slice_set, sym, refl, ap, subst, ◌∙◌, inl, inr, arith}
use mathlib.Core.Option.{Option as Maybe, some, none}
use Rattle.atomic_table.specs.Table.{gives, step, Allows}
use Rattle.node_seat.specs.declared.views.Start.{Start}
use Rattle.node_seat.specs.declared.views.SeatView.{SeatView}
use Rattle.node_seat.specs.Turns.{IsTurned, Holds, Gives, Has, without_turn}
use Rattle.node_seat.proofs.Changes.{went, same, IsOwn, start_left, alike_left, own_number_left, range_left, claimed_left, unsplit_left}

own_view : IsOwn without_turn
own_view = record { number = λ w. refl; start = λ w. refl }

off : (u w : SeatView) → u ≡ without_turn w → u.turn ≡ true → ⊥
off u w e t = let f : u.turn ≡ false = ap (λ (x : SeatView). x.turn) e in let g : true ≡ false = sym t ∙ f in cc

module _ {S : Type 0} (kept : Start → Option S → Type 0) where
  -- nobody else has the turn
  alone : (turn claims id : ℕ) (home : Maybe (Option S)) (views : List SeatView) (v : SeatView) → IsTurned kept turn claims home views → Has views id v → v.turn ≡ true
      → (i : ℕ) (w : SeatView) → Has views i w → w.turn ≡ true → i ≡ id
  alone turn claims id home views v r at has i w b t = r.own_number i id w v b at (sym (r.holder i w b t) ∙ r.holder id v at has)

  given : (turn claims id : ℕ) (home : Maybe (Option S)) (views : List SeatView) (v : SeatView) (x : Option S) → IsTurned kept turn claims home views → Has views id v → v.turn ≡ true → v.unopened ≡ false
      → kept v.start x → IsTurned kept 0 claims (some x) (slice_set views id (without_turn v))
  given turn claims id home views v x r at has open_now k =
      let c = went without_turn views id v at in
      record {
        alike = alike_left kept without_turn own_view turn claims id home views v r at;
        own_number = own_number_left kept without_turn own_view turn claims id home views v r at;
        in_range = range_left kept without_turn own_view turn claims id home views v r at claims (omega arith);
        few = r.few;
        claimed = claimed_left kept without_turn own_view turn claims id home views v r at (λ w. refl);
        unsplit = unsplit_left kept without_turn own_view turn claims id home views v r at (λ w. refl);
        holder = λ i a ha e. elim (c i a ha).is [ inl t ↦ absurd (off a (c i a ha).was t.2 e) | inr t ↦ absurd (t.0 (alone turn claims id home views v r at has i (c i a ha).was (c i a ha).at (sym (ap (λ (w : SeatView). w.turn) t.1) ∙ e))) ];
        at_home = λ z i a ha.
            let one : v.start ≡ a.start = r.alike id i v (c i a ha).was at (c i a ha).at ∙ sym (start_left kept without_turn own_view turn claims id home views v r at i a (c i a ha)) in
            let P : Start → Type 0 = λ y. kept y x in
            (x, refl, subst P one k);
        unopened = λ i a ha e.
            let before : (c i a ha).was.unopened ≡ true = sym (same without_turn (λ w. w.unopened) (λ w. refl) views id v i a (c i a ha)) ∙ e in
            let old = r.unopened i (c i a ha).was (c i a ha).at before in
            absurd (elim (c i a ha).is [
              | inl t ↦ clash (c i a ha).was t.1 before
              | inr t ↦ t.0 (alone turn claims id home views v r at has i (c i a ha).was (c i a ha).at old.1)
            ]);
      } where
        clash : (w : SeatView) → w ≡ v → w.unopened ≡ true → ⊥
        clash w e f = let g : w.unopened ≡ false = ap (λ (y : SeatView). y.unopened) e ∙ open_now in let h : true ≡ false = sym f ∙ g in cc

  pub gives_allowed : (slots id n : ℕ) (v : SeatView) (x : Option S) → v.turn ≡ true → v.unopened ≡ false → kept v.start x
      → Allows (Holds kept) slots id (v, (0, x) ∷ []) 0 (λ m. 0) (Gives (step slots 0 0 n none) (v, (0, x) ∷ []))
  gives_allowed slots id n v x has open_now k s (turn, claims, home, words, homes, r) len at lt = (
    without_turn v,
    gives,
    tt,
    (
      0,
      claims,
      some x,
      ap (λ (ws : List ℕ). slice_set ws 0 0) words,
      ap (λ (hs : List (Maybe (Option S))). slice_set hs 0 (some x)) homes,
      given turn claims id home s.views v x r at has open_now k,
    ),
    (refl, refl),
  )
