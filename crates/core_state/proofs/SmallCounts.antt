-- Sums over lists of which an item changes, or that grow.
use Rattle.std.proofs.Common.{◌≡◌, ◌+◌, ◌++◌, ℕ, zero, suc, List, [], ◌∷◌, Some, None, slice_get, slice_set, refl, ap, arith}
use Rattle.std.specs.List.{sum_by}
use Rattle.std.proofs.lemmas.List.Sums.{sum_by-cons}

pub sum_set : {A : Type 0} (f : A → ℕ) (xs : List A) (k : ℕ) (a b : A) → slice_get xs k ≡ Some a → sum_by f (slice_set xs k b) + f a ≡ sum_by f xs + f b
sum_set f [] k a b e = absurd (let g : None ≡ Some a = e in cc)
sum_set f (x ∷ xs) zero a b e =
    let g : Some x ≡ Some a = e in
    let h : x ≡ a = cc in
    let i : f x ≡ f a = ap f h in
    let j : sum_by f (b ∷ xs) ≡ f b + sum_by f xs = sum_by-cons f b xs in
    let k : sum_by f (x ∷ xs) ≡ f x + sum_by f xs = sum_by-cons f x xs in
    omega arith
sum_set f (x ∷ xs) (suc k) a b e =
    let rest = sum_set f xs k a b e in
    let j : sum_by f (x ∷ slice_set xs k b) ≡ f x + sum_by f (slice_set xs k b) = sum_by-cons f x (slice_set xs k b) in
    let k : sum_by f (x ∷ xs) ≡ f x + sum_by f xs = sum_by-cons f x xs in
    omega arith

pub sum_more : {A : Type 0} (f : A → ℕ) (xs : List A) (a : A) → sum_by f (xs ++ a ∷ []) ≡ sum_by f xs + f a
sum_more f [] a = let e : sum_by f (a ∷ []) ≡ f a + sum_by f [] = sum_by-cons f a [] in let z : sum_by f [] ≡ 0 = refl in omega arith
sum_more f (x ∷ xs) a =
    let rest = sum_more f xs a in
    let i : sum_by f (x ∷ (xs ++ a ∷ [])) ≡ f x + sum_by f (xs ++ a ∷ []) = sum_by-cons f x (xs ++ a ∷ []) in
    let j : sum_by f (x ∷ xs) ≡ f x + sum_by f xs = sum_by-cons f x xs in
    omega arith
