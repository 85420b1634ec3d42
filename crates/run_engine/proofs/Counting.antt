-- The sum of a count over the first nodes.
use Rattle.std.proofs.Common.{◌≡◌, ◌+◌, ◌<◌, ℕ, zero, suc, List, [], ◌∷◌, take, slice_get, length, refl, sym, ap, ◌∙◌, arith}
use Rattle.std.specs.List.{sum_by}
use Rattle.std.proofs.lemmas.List.Sums.{sum_by-cons}
use Rattle.core_state.specs.Worlds.{NodeState, node_at}
use Rattle.core_state.specs.Events.{counted_in}

-- one node more
pub one_more : (f : NodeState → ℕ) (nodes : List NodeState) (k : ℕ) → k < length nodes
    → sum_by f (take (k + 1) nodes) ≡ sum_by f (take k nodes) + counted_in f (node_at nodes (k + 1))
one_more f [] k lt = absurd (omega arith)
one_more f (s ∷ ss) zero lt = refl
one_more f (s ∷ ss) (suc k) lt =
    let rest = one_more f ss k (omega arith) in
    let one : k + 1 ≡ suc k = omega arith in
    let two : suc k + 1 ≡ suc (k + 1) = omega arith in
    let with_it : sum_by f (take (suc k + 1) (s ∷ ss)) ≡ f s + sum_by f (take (k + 1) ss) =
    ap (λ m. sum_by f (take m (s ∷ ss))) two ∙ sum_by-cons f s (take (k + 1) ss) in
    let without_it : sum_by f (take (suc k) (s ∷ ss)) ≡ f s + sum_by f (take k ss) = sum_by-cons f s (take k ss) in
    let node : counted_in f (node_at (s ∷ ss) (suc k + 1)) ≡ counted_in f (node_at ss (k + 1)) =
    ap (λ m. counted_in f (node_at (s ∷ ss) m)) two ∙ (ap (λ m. counted_in f (slice_get (s ∷ ss) m)) one ∙ sym (ap (λ m. counted_in f (node_at ss m)) one)) in
    omega (arith, rest, with_it, without_it, node)
