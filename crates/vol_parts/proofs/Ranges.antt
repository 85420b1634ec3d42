-- A list made from the numbers of a range, one number further.
use Rattle.std.proofs.Common.{◌≡◌, ◌+◌, ◌-◌, ◌≤◌, ℕ, zero, suc, [], ◌∷◌, ◌++◌, Option, map, ap, arith}
use Rattle.std.specs.List.{range_with_len, filter_map, cons_option}
use Rattle.std.proofs.lemmas.List.Elements.{filter_map-append}
use Rattle.std.proofs.lemmas.List.FromFn.{map-range_with_len_more}

pub range-more : (a n j : ℕ) → a + n ≡ j → range_with_len a (n + 1) ≡ range_with_len a n ++ j ∷ []
range-more a zero j e = let first : a ≡ j = omega arith in ap (λ k. k ∷ []) first
range-more a (suc n) j e =
    let next : suc n + 1 ≡ suc (n + 1) = omega arith in
    rw next (ap (λ ns. a ∷ ns) (range-more (a + 1) n j (omega arith)))

-- what the next number gives comes last
pub filter_map-more : {X : Type 0} (f : ℕ → Option X) (n : ℕ)
    → filter_map f (range_with_len 0 (n + 1)) ≡ filter_map f (range_with_len 0 n) ++ cons_option (f n) []
filter_map-more f n =
    let next = range-more 0 n n (omega arith) in
    rw next (filter_map-append f (range_with_len 0 n) (n ∷ []))

-- the numbers from 1, one further
pub map-next : {X : Type 0} (f : ℕ → X) (n : ℕ) → 1 ≤ n
    → map f (range_with_len 1 (n + 1 - 1)) ≡ map f (range_with_len 1 (n - 1)) ++ f n ∷ []
map-next f n h =
    let e : n + 1 - 1 ≡ n - 1 + 1 = omega arith in
    rw e (map-range_with_len_more f 1 (n - 1) n (omega arith))
