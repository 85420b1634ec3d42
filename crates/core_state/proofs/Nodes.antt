-- A node of a list of nodes that changes.
use Rattle.std.proofs.Common.{◌≡◌, ◌≢◌, ◌≤◌, ◌<◌, ◌-◌, ℕ, zero, suc, List, [], ◌∷◌, Some, None, length, map, slice_get, slice_set, refl, sym, ap, subst, ◌∙◌, inl, inr, arith}
use Rattle.std.specs.Prelude.{slice_index_or}
use Rattle.std.proofs.lemmas.Option.{slice_get_within}
use Rattle.base_words.proofs.Listing.{same_or_not}
use Rattle.base_words.proofs.ListWrites.{get-set_else, get-set_here}
use Rattle.core_state.specs.Worlds.{NodeState, node_at, set_node}

pub at_here : (nodes : List NodeState) (n : ℕ) (s old : NodeState) → node_at nodes n ≡ Some old → node_at (set_node nodes n s) n ≡ Some s
at_here nodes zero s old e = absurd (let f : None ≡ Some old = e in cc)
at_here nodes (suc k) s old e = get-set_here nodes k s (slice_get_within nodes k old e)

pub at_else : (nodes : List NodeState) (n m : ℕ) (s : NodeState) → m ≢ n → node_at (set_node nodes n s) m ≡ node_at nodes m
at_else nodes zero m s ne = refl
at_else nodes (suc k) zero s ne = refl
at_else nodes (suc k) (suc j) s ne = get-set_else nodes k j s (λ f. ne (ap suc (sym f)))

-- what holds of all nodes, where node n, which stood as s, stands as r
pub all_set : (nodes : List NodeState) (n : ℕ) (s r : NodeState) → node_at nodes n ≡ Some s → (P : ℕ → NodeState → Type 0) → P n r → ((m : ℕ) (q : NodeState) → m ≢ n → node_at nodes m ≡ Some q → P m q)
    → (m : ℕ) (q : NodeState) → node_at (set_node nodes n r) m ≡ Some q → P m q
all_set nodes n s r at P mine others m q e = elim (same_or_not m n) [ inl f ↦ here f | inr ne ↦ others m q ne (sym (at_else nodes n m r ne) ∙ e) ] where
  here : m ≡ n → P m q
  here f =
      let x : Some q ≡ Some r = sym e ∙ ap (node_at (set_node nodes n r)) f ∙ at_here nodes n r s at in
      let y : r ≡ q = cc in
      subst (λ (k : ℕ). P k q) (sym f) (subst (λ (z : NodeState). P n z) y mine)

-- a node that is set twice is set once
pub set_twice : (nodes : List NodeState) (k : ℕ) (a b : NodeState) → slice_set (slice_set nodes k a) k b ≡ slice_set nodes k b
set_twice [] k a b = refl
set_twice (x ∷ xs) zero a b = refl
set_twice (x ∷ xs) (suc k) a b = ap (λ ys. x ∷ ys) (set_twice xs k a b)

-- a node that is set to what it is stays
pub set_same : (nodes : List NodeState) (k : ℕ) (a : NodeState) → slice_get nodes k ≡ Some a → slice_set nodes k a ≡ nodes
set_same [] k a e = refl
set_same (x ∷ xs) zero a e = let f : Some x ≡ Some a = e in let h : a ≡ x = cc in ap (λ y. y ∷ xs) h
set_same (x ∷ xs) (suc k) a e = ap (λ ys. x ∷ ys) (set_same xs k a e)

pub length_set : (nodes : List NodeState) (k : ℕ) (a : NodeState) → length (slice_set nodes k a) ≡ length nodes
length_set [] k a = refl
length_set (x ∷ xs) zero a = refl
length_set (x ∷ xs) (suc k) a = ap suc (length_set xs k a)

pub set_node_twice : (nodes : List NodeState) (n : ℕ) (a b : NodeState) → set_node (set_node nodes n a) n b ≡ set_node nodes n b
set_node_twice nodes zero a b = refl
set_node_twice nodes (suc k) a b = set_twice nodes k a b

pub set_node_same : (nodes : List NodeState) (n : ℕ) (a : NodeState) → node_at nodes n ≡ Some a → set_node nodes n a ≡ nodes
set_node_same nodes zero a e = refl
set_node_same nodes (suc k) a e = set_same nodes k a e

pub length_node : (nodes : List NodeState) (n : ℕ) (a : NodeState) → length (set_node nodes n a) ≡ length nodes
length_node nodes zero a = refl
length_node nodes (suc k) a = length_set nodes k a

-- a node of a number from 1 stands at one place less
pub at_place : (nodes : List NodeState) (n : ℕ) → 1 ≤ n → node_at nodes n ≡ slice_get nodes (n - 1)
at_place nodes zero le = absurd (omega arith)
at_place nodes (suc k) le = ap (slice_get nodes) (let e : k ≡ suc k - 1 = omega arith in e)

pub set_place : (nodes : List NodeState) (n : ℕ) (s : NodeState) → 1 ≤ n → set_node nodes n s ≡ slice_set nodes (n - 1) s
set_place nodes zero s le = absurd (omega arith)
set_place nodes (suc k) s le = ap (λ j. slice_set nodes j s) (let e : k ≡ suc k - 1 = omega arith in e)

-- ---- the nodes as they are told

mapped_at : {A B : Type 0} (f : A → B) (xs : List A) (k : ℕ) (d : A) → k < length (map f xs) → d ≡ slice_index_or xs k d → slice_get (map f xs) k ≡ Some (f d)
mapped_at f [] k d lt e = absurd (omega arith)
mapped_at f (x ∷ xs) zero d lt e = ap (λ y. Some (f y)) (sym e)
mapped_at f (x ∷ xs) (suc k) d lt e = mapped_at f xs k d (omega arith) e

-- the node of a number, by the item at one place less
pub told_at : {A : Type 0} (f : A → NodeState) (xs : List A) (n : ℕ) (d : A) → 1 ≤ n → n ≤ length (map f xs) → d ≡ slice_index_or xs (n - 1) d → node_at (map f xs) n ≡ Some (f d)
told_at f xs zero d from to e = absurd (omega arith)
told_at f xs (suc k) d from to e =
    let p : suc k - 1 ≡ k = omega arith in
    mapped_at f xs k d (omega arith) (subst (λ (j : ℕ). d ≡ slice_index_or xs j d) p e)

-- the same where the nodes are told so
pub node_told : {A : Type 0} (f : A → NodeState) (xs : List A) (nodes : List NodeState) (n : ℕ) (d : A) → nodes ≡ map f xs → 1 ≤ n → n ≤ length nodes → d ≡ slice_index_or xs (n - 1) d → node_at nodes n ≡ Some (f d)
node_told f xs nodes n d told from to e = ap (λ ns. node_at ns n) told ∙ told_at f xs n d from (subst (λ (ns : List NodeState). n ≤ length ns) told to) e

-- an item that is set is a node that is set
pub told_set : {A : Type 0} (f : A → NodeState) (xs : List A) (n : ℕ) (d : A) → 1 ≤ n → map f (slice_set xs (n - 1) d) ≡ set_node (map f xs) n (f d)
told_set f xs zero d from = absurd (omega arith)
told_set f xs (suc k) d from =
    let p : suc k - 1 ≡ k = omega arith in
    ap (λ j. map f (slice_set xs j d)) p ∙ mapped_set f xs k d where
      mapped_set : {A B : Type 0} (f : A → B) (xs : List A) (k : ℕ) (d : A) → map f (slice_set xs k d) ≡ slice_set (map f xs) k (f d)
      mapped_set f [] k d = refl
      mapped_set f (x ∷ xs) zero d = refl
      mapped_set f (x ∷ xs) (suc k) d = ap (λ ys. f x ∷ ys) (mapped_set f xs k d)
