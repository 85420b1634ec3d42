-- Splitting off a seat keeps the rule.
use Rattle.std.proofs.Common.{◌≡◌, ◌≢◌, ◌≤◌, ◌++◌, ◌⊎◌, ℕ, true, false, List, [], ◌∷◌, Option, None, length, slice_set, sym, refl, ap, subst, ◌∙◌, inl, inr, arith}
use mathlib.Core.Option.{Option as Maybe, some}
use Rattle.atomic_table.specs.Table.{Splits}
use Rattle.node_seat.specs.declared.views.Start.{Start}
use Rattle.node_seat.specs.declared.views.SeatView.{SeatView}
use Rattle.node_seat.specs.Turns.{IsTurned, Holds, Has, stays, comes}
use Rattle.node_seat.proofs.Changes.{Went, went, same, at_end}

-- a view after the split is one before it, or the new one at the end
abbrev Born : List SeatView → ℕ → SeatView → ℕ → SeatView → Type 0
Born views id v j u = Went stays views id v j u ⊎ ((j ≡ length (slice_set views id (stays v))) × (u ≡ comes v))

born : (views : List SeatView) (id : ℕ) (v : SeatView) → Has views id v → (j : ℕ) (u : SeatView) → Has (slice_set views id (stays v) ++ comes v ∷ []) j u → Born views id v j u
born views id v at j u h = elim (at_end (slice_set views id (stays v)) (comes v) u j h) [ inl t ↦ inl (went stays views id v at j u t) | inr t ↦ inr t ]

module _ {S : Type 0} (kept : Start → Option S → Type 0) (turn claims id : ℕ) (home : Maybe (Option S)) (views : List SeatView) (v : SeatView) (r : IsTurned kept turn claims home views) (at : Has views id v) (splits : v.splitting ≡ true) where
  abbrev vs : List SeatView
  vs = slice_set views id (stays v) ++ comes v ∷ []

  mine : (v.number ≡ 9) × (1 ≤ claims) × ((j : ℕ) (w : SeatView) → Has views j w → w.number ≢ claims)
  mine = r.unsplit id v at splits

  made : v.claims ≡ claims
  made = r.claimed id v at mine.0

  -- each view has the start of the one that was cut
  about : (j : ℕ) (u : SeatView) → Born views id v j u → u.start ≡ v.start
  about j u (inl c) = same stays (λ w. w.start) (λ w. refl) views id v j u c ∙ r.alike j id c.was v c.at at
  about j u (inr t) = ap (λ (w : SeatView). w.start) t.1

  number : (j : ℕ) (u : SeatView) (c : Went stays views id v j u) → u.number ≡ c.was.number
  number j u c = same stays (λ w. w.number) (λ w. refl) views id v j u c

  -- the new seat's number is the last that was claimed, and no other's
  new_number : (u : SeatView) → u ≡ comes v → u.number ≡ claims
  new_number u e = ap (λ (w : SeatView). w.number) e ∙ made

  old_number : (j : ℕ) (u : SeatView) → Went stays views id v j u → u.number ≢ claims
  old_number j u c e = mine.2 j c.was c.at (sym (number j u c) ∙ e)

  one : (i j : ℕ) (a b : SeatView) → Born views id v i a → Born views id v j b → a.number ≡ b.number → i ≡ j
  one i j a b (inl c) (inl d) e = r.own_number i j c.was d.was c.at d.at (sym (number i a c) ∙ e ∙ number j b d)
  one i j a b (inl c) (inr t) e = absurd (old_number i a c (e ∙ new_number b t.1))
  one i j a b (inr t) (inl d) e = absurd (old_number j b d (sym e ∙ new_number a t.1))
  one i j a b (inr t) (inr u) e = t.0 ∙ sym u.0

  range : (j : ℕ) (u : SeatView) → Born views id v j u → (u.number ≡ 9) ⊎ ((1 ≤ u.number) × (u.number ≤ claims))
  range j u (inl c) = rw (number j u c) (r.in_range j c.was c.at)
  range j u (inr t) = let n = new_number u t.1 in let p = mine.1 in inr (omega arith, omega arith)

  claims_of : (j : ℕ) (u : SeatView) → Born views id v j u → u.number ≡ 9 → u.claims ≡ claims
  claims_of j u (inl c) e = same stays (λ w. w.claims) (λ w. refl) views id v j u c ∙ r.claimed j c.was c.at (sym (number j u c) ∙ e)
  claims_of j u (inr t) e = let n = new_number u t.1 in let p = r.few in absurd (omega arith)

  -- no view says that a seat is still to be split off
  none_splits : (j : ℕ) (u : SeatView) → Born views id v j u → u.splitting ≡ true → ⊥
  none_splits j u (inl c) e = elim c.is [
    | inl t ↦ off (ap (λ (w : SeatView). w.splitting) t.2)
    | inr t ↦ t.0 (r.own_number j id c.was v c.at at ((r.unsplit j c.was c.at (sym (ap (λ (w : SeatView). w.splitting) t.1) ∙ e)).0 ∙ sym mine.0))
  ] where
    off : u.splitting ≡ false → ⊥
    off f = let g : true ≡ false = sym e ∙ f in cc
  none_splits j u (inr t) e = let g : true ≡ false = sym e ∙ ap (λ (w : SeatView). w.splitting) t.1 in cc

  holds_turn : (j : ℕ) (u : SeatView) → Born views id v j u → u.turn ≡ true → turn ≡ u.number
  holds_turn j u (inl c) e = r.holder j c.was c.at (sym (same stays (λ w. w.turn) (λ w. refl) views id v j u c) ∙ e) ∙ sym (number j u c)
  holds_turn j u (inr t) e = let g : true ≡ false = sym e ∙ ap (λ (w : SeatView). w.turn) t.1 in cc

  is_unopened : (j : ℕ) (u : SeatView) → Born views id v j u → u.unopened ≡ true → (u.number ≡ 9) × (u.turn ≡ true) × (home ≡ some None)
  is_unopened j u (inl c) e =
      let old = r.unopened j c.was c.at (sym (same stays (λ w. w.unopened) (λ w. refl) views id v j u c) ∙ e) in
      (number j u c ∙ old.0, same stays (λ w. w.turn) (λ w. refl) views id v j u c ∙ old.1, old.2)
  is_unopened j u (inr t) e = let g : true ≡ false = sym e ∙ ap (λ (w : SeatView). w.unopened) t.1 in cc

  pub split_keeps : IsTurned kept turn claims home vs
  split_keeps =
      let b : (j : ℕ) (u : SeatView) → Has vs j u → Born views id v j u = born views id v at in
      record {
        alike = λ i j x y hx hy. about i x (b i x hx) ∙ sym (about j y (b j y hy));
        own_number = λ i j x y hx hy. one i j x y (b i x hx) (b j y hy);
        in_range = λ i x hx. range i x (b i x hx);
        few = r.few;
        claimed = λ i x hx. claims_of i x (b i x hx);
        unsplit = λ i x hx e. absurd (none_splits i x (b i x hx) e);
        holder = λ i x hx. holds_turn i x (b i x hx);
        at_home = λ z i x hx.
            let old = r.at_home z id v at in
            let P : Start → Type 0 = λ y. kept y old.0 in
            (old.0, old.1, subst P (sym (about i x (b i x hx))) old.2);
        unopened = λ i x hx. is_unopened i x (b i x hx);
      }

pub splits_allowed : {S : Type 0} (kept : Start → Option S → Type 0) (id : ℕ) (v : SeatView) → v.splitting ≡ true → Splits (Holds kept) id v (stays v) (comes v)
splits_allowed kept id v e s (turn, claims, home, words, homes, r) at = (turn, claims, home, words, homes, split_keeps kept turn claims id home s.views v r at e)
