-- Whether a chain of entries leads from one number to another is settled by few steps: allow one number more at a time between them.
use Rattle.std.proofs.Common.{◌≡◌, ◌<◌, ◌≤◌, ◌⊎◌, ℕ, zero, suc, Bool, true, length, subst, arith, inl, inr, ⊎_elim}
use Rattle.std.specs.Prelude.{◌&&◌, ◌||◌}
use Rattle.std.proofs.lemmas.Bool.{and_from, and_parts, or_left, or_right, or_cases, cases_lt}
use Rattle.plain_cat.specs.declared.cat.Cat.{Cat}
use Rattle.vol_parts.specs.Fatal.{Path}
use Rattle.vol_parts.specs.Fatal.Path.{One, More}
use Rattle.vol_faults.specs.Reaching.{leads}
use Rattle.vol_faults.proofs.ReachLemmas.{leads-names, names-leads, path-number}
use Rattle.vol_faults.proofs.WayLemmas.{path-on}
use Rattle.vol_analyze.proofs.Seeking.{IsSettled, moved, same}

-- a chain leads from n to m, and between them it goes through numbers below k alone
linked : Cat → ℕ → ℕ → ℕ → Bool
linked c zero n m = leads c n m
linked c (suc k) n m = linked c k n m || (linked c k n k && linked c k k m)

-- where the next number lies between, there are two chains
split : (c : Cat) (k n m : ℕ) → linked c (suc k) n m ≡ true → (linked c k n m ≡ true) ⊎ ((linked c k n k ≡ true) × (linked c k k m ≡ true))
unfolding linked
split c k n m e = ⊎_elim inl (λ both. inr (and_parts _ _ both)) (or_cases (linked c k n m) (linked c k n k && linked c k k m) e)

wider : (c : Cat) (k n m : ℕ) → linked c k n m ≡ true → linked c (suc k) n m ≡ true
unfolding linked
wider c k n m e = or_left (linked c k n m) _ e

through : (c : Cat) (k n m : ℕ) → linked c k n k ≡ true → linked c k k m ≡ true → linked c (suc k) n m ≡ true
unfolding linked
through c k n m to from = or_right (linked c k n m) _ (and_from _ _ to from)

linked_path : (c : Cat) (k n m : ℕ) → linked c k n m ≡ true → Path c n m
unfolding linked
linked_path c zero n m e = One (leads-names c n m e)
linked_path c (suc k) n m e = ⊎_elim (linked_path c k n m) (λ h. path-on c n k m (linked_path c k n k h.0) (linked_path c k k m h.1)) (split c k n m e)

ending : (c : Cat) (k n : ℕ) → linked c (suc k) n k ≡ true → linked c k n k ≡ true
ending c k n e = ⊎_elim (λ h. h) (λ h. h.0) (split c k n k e)

beginning : (c : Cat) (k m : ℕ) → linked c (suc k) k m ≡ true → linked c k k m ≡ true
beginning c k m e = ⊎_elim (λ h. h) (λ h. h.1) (split c k k m e)

-- two chains that meet at a number are one, where this is so of those that go through the numbers below k alone
meet : (c : Cat) (k x n m : ℕ) → ((y z : ℕ) → linked c k y x ≡ true → linked c k x z ≡ true → linked c k y z ≡ true)
    → (linked c k n x ≡ true) ⊎ ((linked c k n k ≡ true) × (linked c k k x ≡ true)) → (linked c k x m ≡ true) ⊎ ((linked c k x k ≡ true) × (linked c k k m ≡ true))
    → linked c (suc k) n m ≡ true
meet c k x n m join (inl a) (inl b) = wider c k n m (join n m a b)
meet c k x n m join (inl a) (inr b) = through c k n m (join n k a b.0) b.1
meet c k x n m join (inr a) (inl b) = through c k n m a.0 (join k m a.1 b)
meet c k x n m join (inr a) (inr b) = through c k n m a.0 b.1

meet_last : (c : Cat) (k x n m : ℕ) → x ≡ k → linked c (suc k) n x ≡ true → linked c (suc k) x m ≡ true → linked c (suc k) n m ≡ true
meet_last c k x n m e to from =
    through c k n m (ending c k n (subst (λ (y : ℕ). linked c (suc k) n y ≡ true) e to)) (beginning c k m (subst (λ (y : ℕ). linked c (suc k) y m ≡ true) e from))

-- two chains that meet at an allowed number are one
joined : (c : Cat) (k x n m : ℕ) → x < k → linked c k n x ≡ true → linked c k x m ≡ true → linked c k n m ≡ true
joined c zero x n m low to from = absurd (omega arith)
joined c (suc k) x n m low to from =
    ⊎_elim (λ (less : x < k). meet c k x n m (λ y z. joined c k x y z less) (split c k n x to) (split c k x m from))
    (λ (high : k ≤ x). meet_last c k x n m (omega arith) to from)
    (cases_lt x k)

from_step : (c : Cat) (k n m : ℕ) → leads c n m ≡ true → linked c k n m ≡ true
unfolding linked
from_step c zero n m e = e
from_step c (suc k) n m e = wider c k n m (from_step c k n m e)

path_linked : (c : Cat) (n m : ℕ) → Path c n m → linked c (suc (length c.files)) n m ≡ true
path_linked c n m (One h) = from_step c (suc (length c.files)) n m (names-leads c n m h)
path_linked c n m (More {k = x} p h) =
    let inside = (path-number c n x p).1 in
    joined c (suc (length c.files)) x n m (omega arith) (path_linked c n x p) (from_step c (suc (length c.files)) x m (names-leads c x m h))

pub chain_settled : (c : Cat) (n m : ℕ) → IsSettled (Path c n m)
chain_settled c n m = moved (linked_path c (suc (length c.files)) n m) (path_linked c n m) (same (linked c (suc (length c.files)) n m) true)
