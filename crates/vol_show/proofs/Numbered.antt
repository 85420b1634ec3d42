-- What is made of the numbers from 1, one number further.
use Rattle.std.proofs.Common.{◌≡◌, ◌∙◌, ◌+◌, ◌-◌, ◌≤◌, ℕ, List, [], ◌∷◌, ◌++◌, ap, arith, append-nil}
use Rattle.std.specs.List.{range_with_len, flat_map, sum_by}
use Rattle.std.proofs.lemmas.Grind.{flat_map-append}
use Rattle.std.proofs.lemmas.List.Sums.{sum_by-append}
use Rattle.vol_parts.proofs.Ranges.{range-more}

more : (n : ℕ) → 1 ≤ n → range_with_len 1 (n + 1 - 1) ≡ range_with_len 1 (n - 1) ++ n ∷ []
more n h =
    let e : n + 1 - 1 ≡ n - 1 + 1 = omega arith in
    rw e (range-more 1 (n - 1) n (omega arith))

pub texts_next : (f : ℕ → List ℕ) (n : ℕ) → 1 ≤ n → flat_map f (range_with_len 1 (n + 1 - 1)) ≡ flat_map f (range_with_len 1 (n - 1)) ++ f n
texts_next f n h = ap (flat_map f) (more n h) ∙ flat_map-append f (range_with_len 1 (n - 1)) (n ∷ []) ∙ ap (λ (x : List ℕ). flat_map f (range_with_len 1 (n - 1)) ++ x) (append-nil (f n))

pub sums_next : (f : ℕ → ℕ) (n : ℕ) → 1 ≤ n → sum_by f (range_with_len 1 (n + 1 - 1)) ≡ sum_by f (range_with_len 1 (n - 1)) + f n
sums_next f n h =
    let one : sum_by f (n ∷ []) ≡ f n = omega arith in
    ap (sum_by f) (more n h) ∙ sum_by-append f (range_with_len 1 (n - 1)) (n ∷ []) ∙ ap (λ k. sum_by f (range_with_len 1 (n - 1)) + k) one
