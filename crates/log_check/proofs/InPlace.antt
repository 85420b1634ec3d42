-- A list that is changed in place, item by item from the front.
use Rattle.std.proofs.Common.{◌≡◌, ◌+◌, ◌<◌, ◌≤◌, ◌∙◌, ℕ, zero, suc, List, [], ◌∷◌, ◌++◌, Some, map, take, drop, length, slice_get, slice_set, slice_index_or, refl, sym, ap, arith}
use Rattle.std.proofs.lemmas.Option.{get_or_from_slice_get}

-- the first i items are changed
abbrev pub changed : {A : Type 0} → (A → A) → ℕ → List A → List A
changed f i xs = map f (take i xs) ++ drop i xs

pub none_changed : {A : Type 0} (f : A → A) (xs : List A) → xs ≡ changed f 0 xs
none_changed f [] = refl
none_changed f (x ∷ xs) = refl

pub all_changed : {A : Type 0} (f : A → A) (xs : List A) → changed f (length xs) xs ≡ map f xs
all_changed f [] = refl
all_changed f (x ∷ xs) = ap (λ ys. f x ∷ ys) (all_changed f xs)

-- the next one is as it was
pub next_stands : {A : Type 0} (f : A → A) (xs : List A) (i : ℕ) → slice_get (changed f i xs) i ≡ slice_get xs i
next_stands f [] zero = refl
next_stands f [] (suc i) = refl
next_stands f (x ∷ xs) zero = refl
next_stands f (x ∷ xs) (suc i) = next_stands f xs i

next_item : {A : Type 0} (f : A → A) (xs : List A) (i : ℕ) (x : A) → slice_get xs i ≡ Some x → slice_set (changed f i xs) i (f x) ≡ changed f (suc i) xs
next_item f [] i x at = absurd (cc at)
next_item f (y ∷ ys) zero x at = let same : y ≡ x = cc at in ap (λ z. f z ∷ ys) (sym same)
next_item f (y ∷ ys) (suc i) x at = ap (λ zs. f y ∷ zs) (next_item f ys i x at)

pub one_more : {A : Type 0} (f : A → A) (xs : List A) (i : ℕ) (x : A) → slice_get xs i ≡ Some x → slice_set (changed f i xs) i (f x) ≡ changed f (i + 1) xs
one_more f xs i x at = let e : suc i ≡ i + 1 = omega arith in next_item f xs i x at ∙ ap (λ k. changed f k xs) e

pub changed_length : {A : Type 0} (f : A → A) (xs : List A) (i : ℕ) → length (changed f i xs) ≡ length xs
changed_length f [] zero = refl
changed_length f [] (suc i) = refl
changed_length f (x ∷ xs) zero = refl
changed_length f (x ∷ xs) (suc i) = ap suc (changed_length f xs i)

-- what is read at a place
pub read_is : {A : Type 0} (xs ys : List A) (i : ℕ) (s x : A) → slice_get xs i ≡ Some s → ys ≡ xs → x ≡ slice_index_or ys i x → s ≡ x
read_is xs ys i s x at same read = sym (read ∙ (ap (λ zs. slice_index_or zs i x) same ∙ get_or_from_slice_get xs i s x at))

-- where there is a next item
pub has_next : {A : Type 0} (xs : List A) (i : ℕ) → i < length xs → (x : A) × (slice_get xs i ≡ Some x)
has_next [] i lt = absurd (omega (arith, lt))
has_next (x ∷ xs) zero lt = (x, refl)
has_next (x ∷ xs) (suc i) lt = has_next xs i (omega (arith, lt))

-- at the end all are
pub ends : {A : Type 0} (f : A → A) (xs now : List A) (i n : ℕ) → now ≡ changed f i xs → n ≡ length xs → n ≤ i → i ≤ n → now ≡ map f xs
ends f xs now i n is count low high =
    let e : i ≡ length xs = omega (arith, count, low, high) in
    is ∙ (ap (λ k. changed f k xs) e ∙ all_changed f xs)
