-- The blocks of runs by their place.
use Rattle.std.proofs.Common.{◌≡◌, ◌<◌, ◌≤◌, ◌+◌, ◌-◌, ℕ, zero, suc, List, ◌∷◌, ◌++◌, Some, slice_get, ap, ◌∙◌, arith}
use Rattle.std.specs.List.{range_with_len}
use Rattle.fx_header.specs.declared.run.Run.{Run}
use Rattle.fx_header.specs.Pointers.{lbns_in}

first_places : (a n k : ℕ) (ls : List ℕ) → k < n → slice_get (range_with_len a n ++ ls) k ≡ Some (a + k)
first_places a zero k ls lt = absurd (omega arith)
first_places a (suc n) zero ls lt = ap (λ x. Some x) (let e : a ≡ a + 0 = omega arith in e)
first_places a (suc n) (suc k) ls lt = first_places (a + 1) n k ls (omega arith) ∙ ap (λ x. Some x) (let e : a + 1 + k ≡ a + suc k = omega arith in e)

later_places : (a n k : ℕ) (ls : List ℕ) → n ≤ k → slice_get (range_with_len a n ++ ls) k ≡ slice_get ls (k - n)
later_places a zero k ls le = ap (λ x. slice_get ls x) (let e : k ≡ k - 0 = omega arith in e)
later_places a (suc n) zero ls le = absurd (omega arith)
later_places a (suc n) (suc k) ls le = later_places (a + 1) n k ls (omega arith) ∙ ap (λ x. slice_get ls x) (let e : k - n ≡ suc k - suc n = omega arith in e)

-- the place is in the first run
pub in_first : (r : Run) (rs : List Run) (k : ℕ) → k < r.count → slice_get (lbns_in (r ∷ rs)) k ≡ Some (r.lbn + k)
in_first r rs k lt = first_places r.lbn r.count k (lbns_in rs) lt

-- or in the others
pub in_others : (r : Run) (rs : List Run) (k : ℕ) → r.count ≤ k → slice_get (lbns_in (r ∷ rs)) k ≡ slice_get (lbns_in rs) (k - r.count)
in_others r rs k le = later_places r.lbn r.count k (lbns_in rs) le
