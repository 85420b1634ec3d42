-- A node that is set to another state, and set back.
use Rattle.std.proofs.Common.{◌≡◌, ◌≤◌, ◌-◌, ◌+◌, ℕ, zero, suc, cond, List, [], ◌∷◌, Some, length, map, slice_get, slice_set, refl, sym, ap, subst, ◌∙◌, arith}
use Rattle.std.specs.Prelude.{slice_index_or, is_some}
use Rattle.core_state.specs.Worlds.{NodeState, Plain, IsOfWorld, node_at, set_node, with_node}
use Rattle.core_state.specs.Fallen.{living}
use Rattle.core_state.specs.Goods.{decided, HasRoom}
use Rattle.core_state.proofs.Nodes.{at_here, set_node_twice, set_node_same, length_node, told_at, told_set}
use Rattle.core_step.proofs.Ready.{decided_set}

-- a node of the world stands somehow
pub record IsThere (w : Plain) (n : ℕ) : Type 0 where
  pub state : NodeState
  pub at : node_at w.nodes n ≡ Some state

pub there_now : (w : Plain) (n : ℕ) → IsOfWorld w n → IsThere w n
there_now w n node = by_number n node.from node.to refl where
  some_there : (ns : List NodeState) (k : ℕ) → suc k ≤ length ns → (s : NodeState) × (slice_get ns k ≡ Some s)
  some_there [] k le = absurd (omega arith)
  some_there (s ∷ ns) zero le = (s, refl)
  some_there (s ∷ ns) (suc k) le = some_there ns k (omega arith)

  by_number : (m : ℕ) → 1 ≤ m → m ≤ length w.nodes → m ≡ n → IsThere w n
  by_number zero from to e = absurd (omega arith)
  by_number (suc k) from to e = let t = some_there w.nodes k to in record { state = t.0; at = ap (node_at w.nodes) (sym e) ∙ t.1 }

module _ (w : Plain) (n : ℕ) (s q : NodeState) (at : node_at w.nodes n ≡ Some s) where
  pub set_at : node_at (with_node w n q).nodes n ≡ Some q
  set_at = at_here w.nodes n q s at

  same_count : (a b k j : ℕ) → j ≡ k → a + k ≡ b + j → a ≡ b
  same_count a b k j e f = omega arith

  pub set_room : is_some q.plan ≡ is_some s.plan → (spare : ℕ) → HasRoom w spare → HasRoom (with_node w n q) spare
  set_room plan spare room = record {
    few = subst (λ (k : ℕ). k ≤ 8) (sym (length_node w.nodes n q)) room.few;
    lines = room.lines;
    places = subst (λ (k : ℕ). k + living w.history w.script.nodes ≤ spare) (sym (same_count (decided (set_node w.nodes n q)) (decided w.nodes) (cond (is_some s.plan) 1 0) (cond (is_some q.plan) 1 0) (ap (λ t. cond t 1 0) plan) (decided_set w.nodes n s q at))) room.places;
  }

  pub reset_room : is_some q.plan ≡ is_some s.plan → (spare : ℕ) → HasRoom (with_node w n q) spare → HasRoom w spare
  reset_room plan spare room = record {
    few = subst (λ (k : ℕ). k ≤ 8) (length_node w.nodes n q) room.few;
    lines = room.lines;
    places = subst (λ (k : ℕ). k + living w.history w.script.nodes ≤ spare) (same_count (decided (set_node w.nodes n q)) (decided w.nodes) (cond (is_some s.plan) 1 0) (cond (is_some q.plan) 1 0) (ap (λ t. cond t 1 0) plan) (decided_set w.nodes n s q at)) room.places;
  }

  -- an item that tells the node so
  pub set_so : {A : Type 0} (f : A → NodeState) (xs : List A) (e d : A) → w.nodes ≡ map f xs → 1 ≤ n → n ≤ length (map f xs) → e ≡ slice_index_or xs (n - 1) e → (f e ≡ s → f d ≡ q) → record w { nodes = map f (slice_set xs (n - 1) d) } ≡ with_node w n q
  set_so f xs e d told from to is sets =
      let one : Some (f e) ≡ Some s = sym (told_at f xs n e from to is) ∙ ap (λ ns. node_at ns n) (sym told) ∙ at in
      let mine : f e ≡ s = cc in
      ap (λ ns. record w { nodes = ns }) (told_set f xs n d from ∙ ap (set_node (map f xs) n) (sets mine) ∙ ap (λ ns. set_node ns n q) (sym told))

  -- and that tells it as before again
  pub reset_so : {A : Type 0} (f : A → NodeState) (xs : List A) (v : Plain) (e d : A) → v.nodes ≡ map f xs → v ≡ with_node w n q → 1 ≤ n → n ≤ length w.nodes → e ≡ slice_index_or xs (n - 1) e → (f e ≡ q → f d ≡ s)
      → record v { nodes = map f (slice_set xs (n - 1) d) } ≡ w
  reset_so f xs v e d told same from to is resets =
      let count : length (map f xs) ≡ length w.nodes = ap length (sym told) ∙ ap (λ (y : Plain). length y.nodes) same ∙ length_node w.nodes n q in
      let there : node_at (map f xs) n ≡ Some (f e) = told_at f xs n e from (subst (λ (k : ℕ). n ≤ k) (sym count) to) is in
      let one : Some (f e) ≡ Some q = sym there ∙ ap (λ ns. node_at ns n) (sym told) ∙ ap (λ (y : Plain). node_at y.nodes n) same ∙ set_at in
      let mine : f e ≡ q = cc in
      let set : map f (slice_set xs (n - 1) d) ≡ set_node v.nodes n s = told_set f xs n d from ∙ ap (set_node (map f xs) n) (resets mine) ∙ ap (λ ns. set_node ns n s) (sym told) in
      ap (λ ns. record v { nodes = ns }) set ∙ ap (λ (y : Plain). record y { nodes = set_node y.nodes n s }) same ∙ ap (λ ns. record w { nodes = ns }) (set_node_twice w.nodes n q s ∙ set_node_same w.nodes n s at)
