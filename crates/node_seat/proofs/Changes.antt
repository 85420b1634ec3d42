-- The views after one of them has changed.
use Rattle.std.proofs.Common.{◌≡◌, ◌≢◌, ◌≤◌, ◌⊎◌, ◌++◌, ℕ, zero, suc, true, List, [], ◌∷◌, Option, length, slice_set, sym, refl, ap, subst, ◌∙◌, inl, inr, ⊎_elim, arith}
use mathlib.Core.Option.{Option as Maybe, some, some-injective, some-ne-none}
use lib.ListN.{get_elem?}
use Rattle.atomic_table.proofs.Lists.{at_set}
use Rattle.node_seat.specs.declared.views.Start.{Start}
use Rattle.node_seat.specs.declared.views.SeatView.{SeatView}
use Rattle.node_seat.specs.Turns.{IsTurned, Has}

-- a view after the step is one before it, or the one that changed
pub record Went (f : SeatView → SeatView) (views : List SeatView) (id : ℕ) (v : SeatView) (j : ℕ) (u : SeatView) : Type 0 where
  pub was : SeatView
  pub at : Has views j was
  pub is : ((j ≡ id) × (was ≡ v) × (u ≡ f was)) ⊎ ((j ≢ id) × (u ≡ was))

pub went : (f : SeatView → SeatView) (views : List SeatView) (id : ℕ) (v : SeatView) → Has views id v → (j : ℕ) (u : SeatView) → Has (slice_set views id (f v)) j u → Went f views id v j u
went f views id v at j u h =
    elim (at_set views id j (f v) u h)
    [ inl t ↦ record { was = v; at = back j t.0; is = inl (t.0, refl, sym t.1) } | inr t ↦ record { was = u; at = t.1; is = inr (t.0, refl) } ] where
      back : (j : ℕ) → j ≡ id → Has views j v
      back j e = let P : ℕ → Type 0 = λ k. Has views k v in subst P (sym e) at

-- what the change leaves is as before
pub same : {A : Type 0} (f : SeatView → SeatView) (g : SeatView → A) → ((w : SeatView) → g (f w) ≡ g w) → (views : List SeatView) (id : ℕ) (v : SeatView) (j : ℕ) (u : SeatView) (c : Went f views id v j u) → g u ≡ g c.was
same f g e views id v j u c = elim c.is [ inl t ↦ ap g t.2 ∙ e c.was | inr t ↦ ap g t.1 ]

-- a change leaves the number and the start
pub record IsOwn (f : SeatView → SeatView) : Type 0 where
  pub number : (w : SeatView) → (f w).number ≡ w.number
  pub start : (w : SeatView) → (f w).start ≡ w.start

-- after such a change all views have one start still, a number stands in one view alone, and is 9 or that of a claimed node
module _ {S : Type 0} (kept : Start → Option S → Type 0) (f : SeatView → SeatView) (own : IsOwn f) (turn claims id : ℕ) (home : Maybe (Option S)) (views : List SeatView) (v : SeatView) (r : IsTurned kept turn claims home views) (at : Has views id v) where
  abbrev vs : List SeatView
  vs = slice_set views id (f v)

  gone : (j : ℕ) (u : SeatView) → Has vs j u → Went f views id v j u
  gone j u h = went f views id v at j u h

  pub number_left : (j : ℕ) (u : SeatView) (c : Went f views id v j u) → u.number ≡ c.was.number
  number_left j u c = same f (λ w. w.number) own.number views id v j u c

  pub start_left : (j : ℕ) (u : SeatView) (c : Went f views id v j u) → u.start ≡ c.was.start
  start_left j u c = same f (λ w. w.start) own.start views id v j u c

  pub alike_left : (i j : ℕ) (a b : SeatView) → Has vs i a → Has vs j b → a.start ≡ b.start
  alike_left i j a b ha hb =
      let c = gone i a ha in
      let d = gone j b hb in
      start_left i a c ∙ r.alike i j c.was d.was c.at d.at ∙ sym (start_left j b d)

  pub own_number_left : (i j : ℕ) (a b : SeatView) → Has vs i a → Has vs j b → a.number ≡ b.number → i ≡ j
  own_number_left i j a b ha hb e =
      let c = gone i a ha in
      let d = gone j b hb in
      r.own_number i j c.was d.was c.at d.at (sym (number_left i a c) ∙ e ∙ number_left j b d)

  pub range_left : (more : ℕ) → claims ≤ more → (i : ℕ) (a : SeatView) → Has vs i a → (a.number ≡ 9) ⊎ ((1 ≤ a.number) × (a.number ≤ more))
  range_left more some_more i a ha =
      let c = gone i a ha in
      let n = number_left i a c in
      elim (r.in_range i c.was c.at) [ inl t ↦ inl (n ∙ t) | inr t ↦ (let p = t.0 in let q = t.1 in inr (omega arith, omega arith)) ]

  -- with a change that leaves the claims and whether a seat is to be split off
  pub claimed_left : ((w : SeatView) → (f w).claims ≡ w.claims) → (i : ℕ) (a : SeatView) → Has vs i a → a.number ≡ 9 → a.claims ≡ claims
  claimed_left e i a ha nine =
      let c = gone i a ha in
      same f (λ w. w.claims) e views id v i a c ∙ r.claimed i c.was c.at (sym (number_left i a c) ∙ nine)

  pub unsplit_left : ((w : SeatView) → (f w).splitting ≡ w.splitting) → (i : ℕ) (a : SeatView) → Has vs i a → a.splitting ≡ true
      → (a.number ≡ 9) × (1 ≤ claims) × ((j : ℕ) (w : SeatView) → Has vs j w → w.number ≢ claims)
  unsplit_left e i a ha told =
      let c = gone i a ha in
      let old = r.unsplit i c.was c.at (sym (same f (λ w. w.splitting) e views id v i a c) ∙ told) in
      (number_left i a c ∙ old.0, old.1, λ j b hb same_one. old.2 j (gone j b hb).was (gone j b hb).at (sym (number_left j b (gone j b hb)) ∙ same_one))

-- a number is at least 1
pub positive : {S : Type 0} (kept : Start → Option S → Type 0) (turn claims : ℕ) (home : Maybe (Option S)) (views : List SeatView) → IsTurned kept turn claims home views → (i : ℕ) (v : SeatView) → Has views i v → 1 ≤ v.number
positive kept turn claims home views r i v at = elim (r.in_range i v at) [ inl t ↦ omega arith | inr t ↦ t.0 ]

-- a place of a list with one item more
pub at_end : {A : Type 0} (l : List A) (a b : A) (j : ℕ) → get_elem? (l ++ a ∷ []) j ≡ some b → (get_elem? l j ≡ some b) ⊎ ((j ≡ length l) × (b ≡ a))
at_end [] a b zero e = inr (refl, sym (some-injective a b e))
at_end [] a b (suc j) e = absurd (some-ne-none b (sym e))
at_end (x ∷ xs) a b zero e = inl e
at_end (x ∷ xs) a b (suc j) e = ⊎_elim (λ t. inl t) (λ t. inr (ap suc t.0, t.1)) (at_end xs a b j e)
