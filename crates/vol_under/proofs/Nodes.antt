-- Nodes that change, and their plans.
use Rattle.std.proofs.Common.{◌≡◌, ◌≢◌, ◌+◌, ℕ, zero, suc, List, [], ◌∷◌, ◌++◌, Some, None, slice_get, take, refl, sym, ap, subst, inl, inr, arith}
use Rattle.std.proofs.lemmas.Bool.Decides.{nat_tests}
use Rattle.base_words.specs.Lists.{Touches}
use Rattle.base_words.proofs.Listing.{same_or_not}
use Rattle.vol_under.specs.UnderWay.{PlannedWrite, bare, UnderWay, writes_to, changed}

pub changed_here : (nodes : ℕ → UnderWay) (n : ℕ) (u : UnderWay) → changed nodes n u n ≡ u
changed_here nodes n u = grind (arith, nat_tests)

pub changed_else : (nodes : ℕ → UnderWay) (n : ℕ) (u : UnderWay) (m : ℕ) → m ≢ n → changed nodes n u m ≡ nodes m
changed_else nodes n u m ne = grind (arith, nat_tests)

-- a fact of each node, where node n has changed
pub each : (P : ℕ → UnderWay → Type 0) (nodes : ℕ → UnderWay) (n : ℕ) (u : UnderWay) → P n u → ((m : ℕ) → m ≢ n → P m (nodes m)) → (m : ℕ) → P m (changed nodes n u m)
each P nodes n u self others m = elim (same_or_not m n) [ inl e ↦ at_self e | inr ne ↦ at_other ne ] where
  at_self : m ≡ n → P m (changed nodes n u m)
  at_self e =
      let R : UnderWay → Type 0 = λ v. P n v in
      subst (λ (k : ℕ). P k (changed nodes n u k)) (sym e) (subst R (sym (changed_here nodes n u)) self)

  at_other : m ≢ n → P m (changed nodes n u m)
  at_other ne = let R : UnderWay → Type 0 = λ v. P m v in subst R (sym (changed_else nodes n u m ne)) (others m ne)

-- the writes done of the changed nodes
pub done_here : (nodes : ℕ → UnderWay) (n : ℕ) (u : UnderWay) → writes_to (changed nodes n u n).done (changed nodes n u n) ≡ writes_to u.done u
done_here nodes n u = ap (λ v. writes_to v.done v) (changed_here nodes n u)

pub done_else : (nodes : ℕ → UnderWay) (n : ℕ) (u : UnderWay) (m : ℕ) → m ≢ n → writes_to (changed nodes n u m).done (changed nodes n u m) ≡ writes_to (nodes m).done (nodes m)
done_else nodes n u m ne = ap (λ v. writes_to v.done v) (changed_else nodes n u m ne)

pub done_alike : (nodes : ℕ → UnderWay) (n : ℕ) (u : UnderWay) → writes_to u.done u ≡ writes_to (nodes n).done (nodes n) → (m : ℕ) → writes_to (changed nodes n u m).done (changed nodes n u m) ≡ writes_to (nodes m).done (nodes m)
done_alike nodes n u e m = each (λ k v. writes_to v.done v ≡ writes_to (nodes k).done (nodes k)) nodes n u e (λ k ne. refl) m

-- the first writes of a plan, with the next one
pub writes_next : (ws : List PlannedWrite) (k : ℕ) (w : PlannedWrite) → slice_get ws k ≡ Some w → bare (take (k + 1) ws) ≡ bare (take k ws) ++ (w.lbn, w.block) ∷ []
writes_next [] k w e = absurd (let f : None ≡ Some w = e in cc)
writes_next (x ∷ ws) zero w e = let f : x ≡ w = (let h : Some x ≡ Some w = e in cc) in ap (λ y. (y.lbn, y.block) ∷ []) f
writes_next (x ∷ ws) (suc k) w e = let n : suc k + 1 ≡ suc (k + 1) = omega arith in rw n (ap (λ ys. (x.lbn, x.block) ∷ ys) (writes_next ws k w e))

-- the first writes of a plan are writes of it
pub first_in : (k : ℕ) (ws : List PlannedWrite) (l : ℕ) → Touches (bare (take k ws)) l → Touches (bare ws) l
first_in zero ws l t = absurd t
first_in (suc k) [] l t = absurd t
first_in (suc k) (w ∷ ws) l (inl e) = inl e
first_in (suc k) (w ∷ ws) l (inr t) = inr (first_in k ws l t)

pub done_in : (u : UnderWay) (l : ℕ) → Touches (writes_to u.done u) l → Touches (bare u.plan) l
done_in u l t = first_in u.done u.plan l t

pub next_in : (ws : List PlannedWrite) (k : ℕ) (w : PlannedWrite) → slice_get ws k ≡ Some w → Touches (bare ws) w.lbn
next_in [] k w e = absurd (let f : None ≡ Some w = e in cc)
next_in (x ∷ ws) zero w e = let f : x ≡ w = (let h : Some x ≡ Some w = e in cc) in inl (ap (λ y. y.lbn) f)
next_in (x ∷ ws) (suc k) w e = inr (next_in ws k w e)

-- a node without a plan writes nothing
pub no_writes : (u : UnderWay) (l : ℕ) → u.plan ≡ [] → Touches (bare u.plan) l → ⊥
no_writes u l e t = let R : List PlannedWrite → Type 0 = λ ws. Touches (bare ws) l in subst R e t

none_taken : (ws : List PlannedWrite) (k : ℕ) → ws ≡ [] → bare (take k ws) ≡ []
none_taken ws zero e = refl
none_taken ws (suc k) e = ap (λ vs. bare (take (suc k) vs)) e

pub none_done : (u : UnderWay) → u.plan ≡ [] → writes_to u.done u ≡ []
none_done u e = none_taken u.plan u.done e
