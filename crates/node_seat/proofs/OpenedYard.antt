-- Opening the yard keeps the rule.
use Rattle.std.proofs.Common.{◌≡◌, ℕ, true, false, List, [], Option, None, slice_index, slice_set, sym, refl, ap, ◌∙◌, inl, inr, arith}
use mathlib.Core.Option.{Option as Maybe, some, none}
use lib.ListN.{get_elem?}
use Rattle.atomic_table.specs.Table.{takes, step, Allows}
use Rattle.node_seat.specs.declared.views.Start.{Start}
use Rattle.node_seat.specs.declared.views.SeatView.{SeatView}
use Rattle.node_seat.specs.Turns.{IsTurned, Holds, Opens, Has, opened}
use Rattle.node_seat.proofs.Changes.{went, same, IsOwn, number_left, alike_left, own_number_left, range_left, claimed_left, unsplit_left}

own_view : IsOwn opened
own_view = record { number = λ w. refl; start = λ w. refl }

off : (u w : SeatView) → u ≡ opened w → u.unopened ≡ true → ⊥
off u w e t = let f : u.unopened ≡ false = ap (λ (x : SeatView). x.unopened) e in let g : true ≡ false = sym t ∙ f in cc

module _ {S : Type 0} (kept : Start → Option S → Type 0) where
  opens_keeps : (turn claims id : ℕ) (home : Maybe (Option S)) (views : List SeatView) (v : SeatView) → IsTurned kept turn claims home views → Has views id v → v.unopened ≡ true
      → IsTurned kept turn claims none (slice_set views id (opened v))
  opens_keeps turn claims id home views v r at un =
      let mine = r.unopened id v at un in
      let c = went opened views id v at in
      record {
        alike = alike_left kept opened own_view turn claims id home views v r at;
        own_number = own_number_left kept opened own_view turn claims id home views v r at;
        in_range = range_left kept opened own_view turn claims id home views v r at claims (omega arith);
        few = r.few;
        claimed = claimed_left kept opened own_view turn claims id home views v r at (λ w. refl);
        unsplit = unsplit_left kept opened own_view turn claims id home views v r at (λ w. refl);
        holder = λ i a ha e.
            r.holder i (c i a ha).was (c i a ha).at (sym (same opened (λ w. w.turn) (λ w. refl) views id v i a (c i a ha)) ∙ e)
            ∙ sym (number_left kept opened own_view turn claims id home views v r at i a (c i a ha));
        at_home = λ z. let h = r.holder id v at mine.1 in let n = mine.0 in absurd (omega arith);
        unopened = λ i a ha e.
            absurd (elim (c i a ha).is [
              | inl t ↦ off a (c i a ha).was t.2 e
              | inr t ↦ t.0 (r.own_number i id (c i a ha).was v (c i a ha).at at ((r.unopened i (c i a ha).was (c i a ha).at (sym (ap (λ (w : SeatView). w.unopened) t.1) ∙ e)).0 ∙ sym mine.0))
            ]);
      }

  pub opens_allowed : (slots id : ℕ) (v : SeatView) → v.unopened ≡ true → Allows (Holds kept) slots id (v, []) 0 (λ m. m) (Opens (step slots 0 0 0 none) (v, []))
  opens_allowed slots id v un s (turn, claims, home, words, homes, r) len at lt =
      let mine = r.unopened id v at un in (
        opened v,
        takes 0 None,
        ap (λ (hs : List (Maybe (Option S))). get_elem? hs 0) homes ∙ ap some mine.2,
        (
          turn,
          claims,
          none,
          ap (λ (ws : List ℕ). slice_set ws 0 (slice_index ws 0)) words,
          ap (λ (hs : List (Maybe (Option S))). slice_set hs 0 none) homes,
          opens_keeps turn claims id home s.views v r at un,
        ),
        (refl, refl),
      )
