-- Counts and sums against places: a count of one is a place, and a count of two is two places.
use Rattle.std.proofs.Common.{◌≡◌, ◌∙◌, ◌+◌, ◌<◌, ◌≤◌, ◌≢◌, ◌⊎◌, ℕ, zero, suc, Bool, true, false, cond, List, [], ◌∷◌, Some, refl, sym, ap, subst, arith, inl, inr, ⊎_elim}
use Rattle.std.specs.Prelude.{◌||◌, nat_le, slice_get}
use Rattle.std.specs.List.{count_by, sum_by, list_any, range_with_len}
use Rattle.std.proofs.lemmas.Bool.{leb-true, leb-false, le-leb, cases_lt, cases_Bool, or_parts}
use Rattle.std.proofs.lemmas.Option.{same_Some}
use Rattle.std.proofs.lemmas.List.Sums.{sum_by-cons}

-- ---- a count is not zero

some-or : (a c : ℕ) (t s : Bool) → nat_le 1 a ≡ t → nat_le 1 c ≡ s → nat_le 1 (a + c) ≡ (t || s)
some-or a c true s h e = let some = leb-true 1 a h in le-leb 1 (a + c) (omega arith)
some-or a c false s h e =
    let none = leb-false 1 a h in
    let same : a + c ≡ c = omega arith in
    rw same e

-- a sum is not zero where a term is not
pub some-sum : {X : Type 0} (f : X → ℕ) (t : X → Bool) → ((x : X) → nat_le 1 (f x) ≡ t x) → (xs : List X) → nat_le 1 (sum_by f xs) ≡ list_any t xs
some-sum f t each [] = refl
some-sum f t each (x ∷ xs) = rw (sum_by-cons f x xs) (some-or (f x) (sum_by f xs) (t x) (list_any t xs) (each x) (some-sum f t each xs))

some-bit : (t : Bool) → nat_le 1 (cond t 1 0) ≡ t
some-bit true = refl
some-bit false = refl

pub some-count : {X : Type 0} (p : X → Bool) (xs : List X) → nat_le 1 (count_by p xs) ≡ list_any p xs
some-count p xs = some-sum (λ x. cond (p x) 1 0) p (λ x. some-bit (p x)) xs

-- ---- places

-- the element at this place passes a test
pub record HasPlace {X : Type 0} (p : X → Bool) (xs : List X) (i : ℕ) : Type 0 where
  pub value : X
  pub there : slice_get xs i ≡ Some value
  pub passes : p value ≡ true

count-yes : {X : Type 0} (p : X → Bool) (x : X) (xs : List X) → p x ≡ true → count_by p (x ∷ xs) ≡ 1 + count_by p xs
count-yes p x xs e = sum_by-cons (λ y. cond (p y) 1 0) x xs ∙ rw e refl

count-no : {X : Type 0} (p : X → Bool) (x : X) (xs : List X) → p x ≡ false → count_by p (x ∷ xs) ≡ count_by p xs
count-no p x xs e = sum_by-cons (λ y. cond (p y) 1 0) x xs ∙ rw e (omega arith)

place-behind : {X : Type 0} (p : X → Bool) (x : X) (xs : List X) (i : ℕ) → HasPlace p xs i → HasPlace p (x ∷ xs) (suc i)
place-behind p x xs i h = record { value = h.value; there = h.there; passes = h.passes }

pub one-place : {X : Type 0} (p : X → Bool) (xs : List X) → 1 ≤ count_by p xs → (i : ℕ) × HasPlace p xs i
one-place p [] h = absurd (omega arith)
one-place p (x ∷ xs) h =
    ⊎_elim (λ (e : p x ≡ true). (0, record { value = x; there = refl; passes = e }))
    (λ (e : p x ≡ false). let same = count-no p x xs e in let w = one-place p xs (omega (arith, same)) in (suc w.0, place-behind p x xs w.0 w.1))
    (cases_Bool (p x))

-- two places that pass
pub record HasTwoPlaces {X : Type 0} (p : X → Bool) (xs : List X) : Type 0 where
  pub i : ℕ
  pub j : ℕ
  pub one : HasPlace p xs i
  pub other : HasPlace p xs j
  pub apart : i ≢ j

pub two-places : {X : Type 0} (p : X → Bool) (xs : List X) → 2 ≤ count_by p xs → HasTwoPlaces p xs
two-places p [] h = absurd (omega arith)
two-places p (x ∷ xs) h =
    ⊎_elim (λ (e : p x ≡ true).
    let same = count-yes p x xs e in
    let w = one-place p xs (omega (arith, same)) in
    record { i = 0; j = suc w.0; one = record { value = x; there = refl; passes = e }; other = place-behind p x xs w.0 w.1; apart = omega arith })
    (λ (e : p x ≡ false).
    let same = count-no p x xs e in
    let w = two-places p xs (omega (arith, same)) in
    record { i = suc w.i; j = suc w.j; one = place-behind p x xs w.i w.one; other = place-behind p x xs w.j w.other; apart = λ e. w.apart (omega arith) })
    (cases_Bool (p x))

place-first : {X : Type 0} (p : X → Bool) (x : X) (xs : List X) → HasPlace p (x ∷ xs) 0 → p x ≡ true
place-first {X} p x xs h = let P : X → Type 0 = λ y. p y ≡ true in subst P (sym (same_Some x h.value h.there)) h.passes

place-later : {X : Type 0} (p : X → Bool) (x : X) (xs : List X) (i : ℕ) → HasPlace p (x ∷ xs) (suc i) → HasPlace p xs i
place-later p x xs i h = record { value = h.value; there = h.there; passes = h.passes }

count-behind : {X : Type 0} (p : X → Bool) (x : X) (xs : List X) → count_by p xs ≤ count_by p (x ∷ xs)
count-behind p x xs =
    ⊎_elim (λ (e : p x ≡ true). let same = count-yes p x xs e in omega (arith, same))
    (λ (e : p x ≡ false). let same = count-no p x xs e in omega (arith, same))
    (cases_Bool (p x))

pub place-count : {X : Type 0} (p : X → Bool) (xs : List X) (i : ℕ) → HasPlace p xs i → 1 ≤ count_by p xs
place-count p [] i h = let e = h.there in absurd (cc)
place-count p (x ∷ xs) zero h = let same = count-yes p x xs (place-first p x xs h) in omega (arith, same)
place-count p (x ∷ xs) (suc i) h =
    let rest = place-count p xs i (place-later p x xs i h) in
    let more = count-behind p x xs in
    omega (arith, rest, more)

pub places-count : {X : Type 0} (p : X → Bool) (xs : List X) (i j : ℕ) → HasPlace p xs i → HasPlace p xs j → i ≢ j → 2 ≤ count_by p xs
places-count p [] i j h k apart = let e = h.there in absurd (cc)
places-count p (x ∷ xs) zero zero h k apart = absurd (apart refl)
places-count p (x ∷ xs) zero (suc j) h k apart =
    let same = count-yes p x xs (place-first p x xs h) in
    let rest = place-count p xs j (place-later p x xs j k) in
    omega (arith, same, rest)
places-count p (x ∷ xs) (suc i) zero h k apart =
    let same = count-yes p x xs (place-first p x xs k) in
    let rest = place-count p xs i (place-later p x xs i h) in
    omega (arith, same, rest)
places-count p (x ∷ xs) (suc i) (suc j) h k apart =
    let rest = places-count p xs i j (place-later p x xs i h) (place-later p x xs j k) (λ e. apart (ap suc e)) in
    let more = count-behind p x xs in
    omega (arith, rest, more)

-- an element at a place fails where none passes
pub any-none : {X : Type 0} (p : X → Bool) (xs : List X) (i : ℕ) (x : X) → list_any p xs ≡ false → slice_get xs i ≡ Some x → p x ≡ false
any-none p [] i x none there = absurd (cc)
any-none {X} p (y ∷ ys) zero x none there = let P : X → Type 0 = λ z. p z ≡ false in subst P (same_Some y x there) (or_parts (p y) (list_any p ys) none).0
any-none p (y ∷ ys) (suc i) x none there = any-none p ys i x (or_parts (p y) (list_any p ys) none).1 there

-- ---- sums over numbers

-- a number in a range with so much at least
pub record HasTerm (f : ℕ → ℕ) (a k low : ℕ) : Type 0 where
  pub n : ℕ
  pub from : a ≤ n
  pub to : n < a + k
  pub high : low ≤ f n

-- two numbers in a range, the first below the second, with a term that is not zero
pub record HasTwoTerms (f : ℕ → ℕ) (a k : ℕ) : Type 0 where
  pub n : ℕ
  pub m : ℕ
  pub below : n < m
  pub from : a ≤ n
  pub to : m < a + k
  pub one : 1 ≤ f n
  pub other : 1 ≤ f m

one-term : (f : ℕ → ℕ) (a k : ℕ) → 1 ≤ sum_by f (range_with_len a k) → HasTerm f a k 1
one-term f a zero h = absurd (omega arith)
one-term f a (suc k) h =
    let more = sum_by-cons f a (range_with_len (a + 1) k) in
    ⊎_elim (λ (e : 0 < f a). record { n = a; from = omega arith; to = omega arith; high = e })
    (λ (e : f a ≤ 0). let w = one-term f (a + 1) k (omega (arith, more)) in record { n = w.n; from = omega (arith, w.from); to = omega (arith, w.to); high = w.high })
    (cases_lt 0 (f a))

pub two-terms : (f : ℕ → ℕ) (a k : ℕ) → 2 ≤ sum_by f (range_with_len a k) → HasTerm f a k 2 ⊎ HasTwoTerms f a k
two-terms f a zero h = absurd (omega arith)
two-terms f a (suc k) h =
    let more = sum_by-cons f a (range_with_len (a + 1) k) in
    ⊎_elim (λ (e : 1 < f a). inl (record { n = a; from = omega arith; to = omega arith; high = e }))
    (λ (e : f a ≤ 1). ⊎_elim (λ (s : 0 < f a).
    let w = one-term f (a + 1) k (omega (arith, more)) in
    inr (record { n = a; m = w.n; below = omega (arith, w.from); from = omega arith; to = omega (arith, w.to); one = s; other = w.high }))
    (λ (z : f a ≤ 0). ⊎_elim (λ (w : HasTerm f (a + 1) k 2). inl (record { n = w.n; from = omega (arith, w.from); to = omega (arith, w.to); high = w.high }))
    (λ (w : HasTwoTerms f (a + 1) k).
    inr (record { n = w.n; m = w.m; below = w.below; from = omega (arith, w.from); to = omega (arith, w.to); one = w.one; other = w.other }))
    (two-terms f (a + 1) k (omega (arith, more))))
    (cases_lt 0 (f a)))
    (cases_lt 1 (f a))

pub term-sum : (f : ℕ → ℕ) (a k n : ℕ) → a ≤ n → n < a + k → f n ≤ sum_by f (range_with_len a k)
term-sum f a zero n from to = absurd (omega arith)
term-sum f a (suc k) n from to =
    let more = sum_by-cons f a (range_with_len (a + 1) k) in
    ⊎_elim (λ (e : a < n). let rest = term-sum f (a + 1) k n (omega arith) (omega arith) in omega (arith, more, rest))
    (λ (e : n ≤ a). let same : n ≡ a = omega arith in rw same (omega (arith, more)))
    (cases_lt a n)

pub terms-sum : (f : ℕ → ℕ) (a k n m : ℕ) → a ≤ n → n < m → m < a + k → f n + f m ≤ sum_by f (range_with_len a k)
terms-sum f a zero n m from below to = absurd (omega arith)
terms-sum f a (suc k) n m from below to =
    let more = sum_by-cons f a (range_with_len (a + 1) k) in
    ⊎_elim (λ (e : a < n). let rest = terms-sum f (a + 1) k n m (omega arith) below (omega arith) in omega (arith, more, rest))
    (λ (e : n ≤ a).
    let same : n ≡ a = omega arith in
    let rest = term-sum f (a + 1) k m (omega arith) (omega arith) in
    rw same (omega (arith, more, rest)))
    (cases_lt a n)
