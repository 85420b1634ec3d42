-- Claiming a node keeps the rule.
use Rattle.std.proofs.Common.{◌≡◌, ◌≢◌, ◌<◌, ◌+◌, ℕ, Bool, List, Option, slice_index, slice_set, sym, refl, ap, subst, ◌∙◌, inl, inr, arith, eqb, eq-eqb}
use mathlib.Core.Option.{Option as Maybe, none}
use prog.Atomic.{either}
use Rattle.atomic_table.specs.Table.{keeps, step, Allows}
use Rattle.node_seat.specs.declared.views.Start.{Start}
use Rattle.node_seat.specs.declared.views.SeatView.{SeatView}
use Rattle.node_seat.specs.Turns.{IsTurned, Holds, Claims, Has, claimed_by}
use Rattle.node_seat.proofs.Changes.{went, same, IsOwn, number_left, start_left, alike_left, own_number_left, range_left}

own_view : IsOwn claimed_by
own_view = record { number = λ w. refl; start = λ w. refl }

module _ {S : Type 0} (kept : Start → Option S → Type 0) where
  claims_keeps : (turn claims id : ℕ) (home : Maybe (Option S)) (views : List SeatView) (v : SeatView) → IsTurned kept turn claims home views → Has views id v
      → v.number ≡ 9 → v.claims < 8 → IsTurned kept turn (claims + 1) home (slice_set views id (claimed_by v))
  claims_keeps turn claims id home views v r at nine room =
      let made : v.claims ≡ claims = r.claimed id v at nine in
      let c = went claimed_by views id v at in
      let vs = slice_set views id (claimed_by v) in
      let number : (j : ℕ) (u : SeatView) (h : Has vs j u) → u.number ≡ (c j u h).was.number = λ j u h. number_left kept claimed_by own_view turn claims id home views v r at j u (c j u h) in
      record {
        alike = alike_left kept claimed_by own_view turn claims id home views v r at;
        own_number = own_number_left kept claimed_by own_view turn claims id home views v r at;
        in_range = range_left kept claimed_by own_view turn claims id home views v r at (claims + 1) (omega arith);
        few = omega arith;
        claimed = λ i a ha e. elim (c i a ha).is [
          | inl t ↦ ap (λ (w : SeatView). w.claims) t.2 ∙ ap (λ (w : SeatView). w.claims + 1) t.1 ∙ ap (λ (k : ℕ). k + 1) made
          | inr t ↦ absurd (t.0 (alone r at nine i (c i a ha).was (c i a ha).at (sym (number i a ha) ∙ e)))
        ];
        unsplit = λ i a ha e. elim (c i a ha).is [
          | inl t ↦ (number i a ha ∙ ap (λ (w : SeatView). w.number) t.1 ∙ nine, omega arith, λ j b hb f. new_one r made room (c j b hb).was j (c j b hb).at (sym (number j b hb) ∙ f))
          | inr t ↦ absurd (t.0 (alone r at nine i (c i a ha).was (c i a ha).at (r.unsplit i (c i a ha).was (c i a ha).at (sym (ap (λ (w : SeatView). w.splitting) t.1) ∙ e)).0))
        ];
        holder = λ i a ha e. r.holder i (c i a ha).was (c i a ha).at (sym (same claimed_by (λ w. w.turn) (λ w. refl) views id v i a (c i a ha)) ∙ e) ∙ sym (number i a ha);
        at_home = λ z i a ha.
            let old = r.at_home z i (c i a ha).was (c i a ha).at in
            let P : Start → Type 0 = λ y. kept y old.0 in
            (old.0, old.1, subst P (sym (start_left kept claimed_by own_view turn claims id home views v r at i a (c i a ha))) old.2);
        unopened = λ i a ha e.
            let old = r.unopened i (c i a ha).was (c i a ha).at (sym (same claimed_by (λ w. w.unopened) (λ w. refl) views id v i a (c i a ha)) ∙ e) in
            (number i a ha ∙ old.0, same claimed_by (λ w. w.turn) (λ w. refl) views id v i a (c i a ha) ∙ old.1, old.2);
      } where
        alone : IsTurned kept turn claims home views → Has views id v → v.number ≡ 9 → (i : ℕ) (w : SeatView) → Has views i w → w.number ≡ 9 → i ≡ id
        alone r at nine i w b e = r.own_number i id w v b at (e ∙ sym nine)

        new_one : IsTurned kept turn claims home views → v.claims ≡ claims → v.claims < 8 → (w : SeatView) (j : ℕ) → Has views j w → w.number ≢ claims + 1
        new_one r made room w j b e = elim (r.in_range j w b) [ inl t ↦ omega arith | inr t ↦ let m = t.1 in omega arith ]

  pub claims_allowed : (slots id made : ℕ) (v : SeatView) (held : List (ℕ × Option S)) → v.number ≡ 9 → v.claims ≡ made → made < 8
      → Allows (Holds kept) slots id (v, held) 1 (λ m. either (eqb m made) (made + 1) m) (Claims (step slots 1 made (made + 1) none) (v, held))
  claims_allowed slots id made v held nine is room s (turn, claims, home, words, homes, r) len at lt =
      let found : claims ≡ made = sym (r.claimed id v at nine) ∙ is in
      let word : slice_index s.words 1 ≡ claims = ap (λ (ws : List ℕ). slice_index ws 1) words in
      let hit : either (eqb (slice_index s.words 1) made) (made + 1) (slice_index s.words 1) ≡ claims + 1 =
      ap (λ (b : Bool). either b (made + 1) (slice_index s.words 1)) (eq-eqb (slice_index s.words 1) made (word ∙ found)) ∙ ap (λ (k : ℕ). k + 1) (sym found) in (
        claimed_by v,
        keeps,
        tt,
        (
          turn,
          claims + 1,
          home,
          ap (λ (k : ℕ). slice_set s.words 1 k) hit ∙ ap (λ (ws : List ℕ). slice_set ws 1 (claims + 1)) words,
          homes,
          claims_keeps turn claims id home s.views v r at nine (omega arith),
        ),
        (refl, refl),
      )
