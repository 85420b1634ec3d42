-- Lists that have one more at their end.
use Rattle.std.proofs.Common.{◌≡◌, ◌<◌, ◌+◌, ◌-◌, ◌++◌, ℕ, zero, suc, Bool, true, false, List, [], ◌∷◌, Some, None, length, slice_get, take, refl, ap, ◌∙◌, arith}
use Rattle.std.specs.Prelude.{◌&&◌, not, nat_lt}
use Rattle.std.proofs.lemmas.Bool.Decides.{nat_tests}

pub is_less : (a b : ℕ) → a < b → nat_lt a b ≡ true
is_less a b lt = grind (arith, nat_tests)

pub not_less : (a : ℕ) → nat_lt a a ≡ false
not_less a = grind (arith, nat_tests)

pub length_more : {A : Type 0} (xs : List A) (y : A) → length (xs ++ y ∷ []) ≡ length xs + 1
length_more [] y = refl
length_more (x ∷ xs) y = let e = length_more xs y in omega arith

pub longer : {A : Type 0} (xs : List A) (y : A) → nat_lt (length xs) (length (xs ++ y ∷ [])) ≡ true
longer xs y = is_less (length xs) (length (xs ++ y ∷ [])) (let e = length_more xs y in omega arith)

at_end : {A : Type 0} (xs : List A) (y : A) → slice_get (xs ++ y ∷ []) (length xs) ≡ Some y
at_end [] y = refl
at_end (x ∷ xs) y = at_end xs y

pub last_more : {A : Type 0} (xs : List A) (y : A) → slice_get (xs ++ y ∷ []) (length (xs ++ y ∷ []) - 1) ≡ Some y
last_more xs y =
    let e : length (xs ++ y ∷ []) - 1 ≡ length xs = (let f = length_more xs y in omega arith) in
    ap (slice_get (xs ++ y ∷ [])) e ∙ at_end xs y

pub get_taken : {A : Type 0} (i : ℕ) (xs : List A) (k : ℕ) (y : A) → slice_get (take i xs) k ≡ Some y → slice_get xs k ≡ Some y
get_taken zero [] k y e = absurd (let f : None ≡ Some y = e in cc)
get_taken zero (x ∷ xs) k y e = absurd (let f : None ≡ Some y = e in cc)
get_taken (suc i) [] k y e = absurd (let f : None ≡ Some y = e in cc)
get_taken (suc i) (x ∷ xs) zero y e = e
get_taken (suc i) (x ∷ xs) (suc k) y e = get_taken i xs k y e

pub and_not : (b : Bool) → (b && not b) ≡ false
and_not true = refl
and_not false = refl
