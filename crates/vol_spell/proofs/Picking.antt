-- Items of lists by test and by place.
use Rattle.std.proofs.Common.{◌≡◌, ◌<◌, ◌+◌, ℕ, zero, suc, Bool, true, false, List, [], ◌∷◌, Some, None, map, slice_get, refl, sym, ap, ◌∙◌, inl, inr, arith, cond, ◌≤◌, ◌≢◌}
use Rattle.std.specs.Prelude.{◌||◌, count_by}
use Rattle.std.specs.List.{range_with_len, find, list_any}
use Rattle.std.proofs.lemmas.List.Sums.{sum_by-cons}
use Rattle.base_words.specs.Lists.{Has, Once}
use Rattle.base_words.proofs.Listing.{place_of}

pub found_is : {A : Type 0} (p : A → Bool) (xs : List A) (x : A) → find p xs ≡ Some x → Has xs x × (p x ≡ true)
found_is p [] x e = absurd (let f : None ≡ Some x = e in cc)
found_is {A} p (y ∷ xs) x e = by_test (p y) refl e (λ f. found_is p xs x f) where
  by_test : (b : Bool) → p y ≡ b → cond b (Some y) (find p xs) ≡ Some x → (find p xs ≡ Some x → Has xs x × (p x ≡ true)) → Has (y ∷ xs) x × (p x ≡ true)
  by_test true t f ih = let same : y ≡ x = (let h : Some y ≡ Some x = f in cc) in (inl same, ap p (sym same) ∙ t)
  by_test false t f ih = let h = ih f in (inr h.0, h.1)

pub found_none : {A : Type 0} (p : A → Bool) (xs : List A) (x : A) → find p xs ≡ None → Has xs x → p x ≡ false
found_none p [] x e t = absurd t
found_none {A} p (y ∷ xs) x e t = by_test (p y) refl e (λ f u. found_none p xs x f u) t where
  by_test : (b : Bool) → p y ≡ b → cond b (Some y) (find p xs) ≡ None → (find p xs ≡ None → Has xs x → p x ≡ false) → Has (y ∷ xs) x → p x ≡ false
  by_test true u f ih t = absurd (let h : Some y ≡ None = f in cc)
  by_test false u f ih (inl same) = ap p (sym same) ∙ u
  by_test false u f ih (inr t) = ih f t

-- an item that passes a test, by its place
pub record PassesAt {A : Type 0} (p : A → Bool) (xs : List A) : Type 0 where
  pub place : ℕ
  pub item : A
  pub there : slice_get xs place ≡ Some item
  pub passes : p item ≡ true

pub any_place : {A : Type 0} (p : A → Bool) (xs : List A) → list_any p xs ≡ true → PassesAt p xs
any_place p [] e = absurd (let f : false ≡ true = e in cc)
any_place {A} p (y ∷ xs) e = by_test (p y) refl e (λ f. any_place p xs f) where
  by_test : (b : Bool) → p y ≡ b → b || list_any p xs ≡ true → (list_any p xs ≡ true → PassesAt p xs) → PassesAt p (y ∷ xs)
  by_test true t f ih = record { place = 0; item = y; there = refl; passes = t }
  by_test false t f ih = let h = ih f in record { place = suc h.place; item = h.item; there = h.there; passes = h.passes }

pub place_any : {A : Type 0} (p : A → Bool) (xs : List A) (k : ℕ) (x : A) → slice_get xs k ≡ Some x → p x ≡ true → list_any p xs ≡ true
place_any p [] k x e t = absurd (let f : None ≡ Some x = e in cc)
place_any p (y ∷ xs) zero x e t = let same : y ≡ x = (let h : Some y ≡ Some x = e in cc) in ap (λ b. b || list_any p xs) (ap p same ∙ t)
place_any {A} p (y ∷ xs) (suc k) x e t = by_test (p y) (place_any p xs k x e t) where
  by_test : (b : Bool) → list_any p xs ≡ true → b || list_any p xs ≡ true
  by_test true h = refl
  by_test false h = h

pub has_any : {A : Type 0} (p : A → Bool) (xs : List A) (x : A) → Has xs x → p x ≡ true → list_any p xs ≡ true
has_any p xs x t e = let h = place_of xs x t in place_any p xs h.0 x h.1 e

-- values along a range, by place
pub get_along : {A : Type 0} (f : ℕ → A) (a k q : ℕ) → q < k → slice_get (map f (range_with_len a k)) q ≡ Some (f (a + q))
get_along f a zero q lt = absurd (omega arith)
get_along f a (suc k) zero lt = ap (λ x. Some (f x)) (let e : a ≡ a + 0 = omega arith in e)
get_along f a (suc k) (suc q) lt = get_along f (a + 1) k q (omega arith) ∙ ap (λ x. Some (f x)) (let e : a + 1 + q ≡ a + suc q = omega arith in e)

pub along_get : {A : Type 0} (f : ℕ → A) (a k q : ℕ) (o : A) → slice_get (map f (range_with_len a k)) q ≡ Some o → (q < k) × (f (a + q) ≡ o)
along_get f a zero q o e = absurd (let h : None ≡ Some o = e in cc)
along_get f a (suc k) zero o e = (omega arith, ap f (let z : a + 0 ≡ a = omega arith in z) ∙ (let h : Some (f a) ≡ Some o = e in cc))
along_get f a (suc k) (suc q) o e = let h = along_get f (a + 1) k q o e in (let lt = h.0 in omega arith, ap f (let z : a + suc q ≡ a + 1 + q = omega arith in z) ∙ h.1)

pub count_along : {A : Type 0} (p : A → Bool) (f : ℕ → A) (r : ℕ → Bool) (xs : List ℕ) → ((x : ℕ) → r x ≡ p (f x)) → count_by r xs ≡ count_by p (map f xs)
count_along p f r [] same = refl
count_along {A} p f r (x ∷ xs) same =
    let rest : count_by r xs ≡ count_by p (map f xs) = count_along p f r xs same in
    let e : cond (r x) 1 0 + count_by r xs ≡ cond (p (f x)) 1 0 + count_by p (map f xs) = ap (λ b. cond b 1 0 + count_by r xs) (same x) ∙ ap (λ k. cond (p (f x)) 1 0 + k) rest in
    sum_by-cons (λ y. cond (r y) 1 0) x xs ∙ e ∙ sym (sum_by-cons (λ y. cond (p y) 1 0) (f x) (map f xs))

pub map_along : {A : Type 0} (p : A → Bool) (f : ℕ → A) (r : ℕ → Bool) (xs : List ℕ) → ((x : ℕ) → r x ≡ p (f x)) → map r xs ≡ map p (map f xs)
map_along p f r [] same = refl
map_along p f r (x ∷ xs) same = let a = same x in let b = map_along p f r xs same in λ i. a i ∷ b i

-- an item of a list of values
pub record IsMapped {A : Type 0} (f : A → ℕ) (xs : List A) (y : ℕ) : Type 0 where
  pub place : ℕ
  pub item : A
  pub there : slice_get xs place ≡ Some item
  pub value : f item ≡ y

mapped : {A : Type 0} (f : A → ℕ) (xs : List A) (y : ℕ) → Has (map f xs) y → IsMapped f xs y
mapped f [] y t = absurd t
mapped f (x ∷ xs) y (inl e) = record { place = 0; item = x; there = refl; value = e }
mapped f (x ∷ xs) y (inr t) = let h = mapped f xs y t in record { place = suc h.place; item = h.item; there = h.there; value = h.value }

-- values that are the same at one place alone are listed once
pub once_by_place : {A : Type 0} (f : A → ℕ) (xs : List A) → ((i j : ℕ) (a b : A) → slice_get xs i ≡ Some a → slice_get xs j ≡ Some b → f a ≡ f b → i ≡ j) → Once (map f xs)
once_by_place f [] one = tt
once_by_place f (x ∷ xs) one = (
  (λ t. let h = mapped f xs (f x) t in let e : 0 ≡ suc h.place = one 0 (suc h.place) x h.item refl h.there (sym h.value) in absurd (omega arith)),
  once_by_place f xs (λ i j a b s t e. let h = one (suc i) (suc j) a b s t e in omega arith),
)

-- a test that an item passes counts one at least, and a test that two pass counts two
counted : {A : Type 0} (p : A → Bool) (x : A) (xs : List A) → count_by p (x ∷ xs) ≡ cond (p x) 1 0 + count_by p xs
counted p x xs = sum_by-cons (λ y. cond (p y) 1 0) x xs

one_more : (n m : ℕ) (b : Bool) → n ≡ cond b 1 0 + m → b ≡ true → n ≡ suc m
one_more n m true e t = let f : n ≡ 1 + m = e in omega arith
one_more n m false e t = absurd (cc)

no_less : (n m : ℕ) (b : Bool) → n ≡ cond b 1 0 + m → m ≤ n
no_less n m true e = let f : n ≡ 1 + m = e in omega arith
no_less n m false e = let f : n ≡ 0 + m = e in omega arith

one_counted : {A : Type 0} (p : A → Bool) (xs : List A) (i : ℕ) (a : A) → slice_get xs i ≡ Some a → p a ≡ true → 1 ≤ count_by p xs
one_counted p [] i a e t = absurd (let f : None ≡ Some a = e in cc)
one_counted p (x ∷ xs) zero a e t =
    let same : x ≡ a = (let h : Some x ≡ Some a = e in cc) in
    let k = one_more (count_by p (x ∷ xs)) (count_by p xs) (p x) (counted p x xs) (ap p same ∙ t) in
    omega arith
one_counted p (x ∷ xs) (suc i) a e t =
    let h = one_counted p xs i a e t in
    let k = no_less (count_by p (x ∷ xs)) (count_by p xs) (p x) (counted p x xs) in
    omega arith

pub two_counted : {A : Type 0} (p : A → Bool) (xs : List A) (i j : ℕ) (a b : A) → slice_get xs i ≡ Some a → slice_get xs j ≡ Some b → i ≢ j → p a ≡ true → p b ≡ true → 2 ≤ count_by p xs
two_counted p [] i j a b e f ne t u = absurd (let h : None ≡ Some a = e in cc)
two_counted p (x ∷ xs) zero zero a b e f ne t u = absurd (ne refl)
two_counted p (x ∷ xs) zero (suc j) a b e f ne t u =
    let same : x ≡ a = (let h : Some x ≡ Some a = e in cc) in
    let h = one_counted p xs j b f u in
    let k = one_more (count_by p (x ∷ xs)) (count_by p xs) (p x) (counted p x xs) (ap p same ∙ t) in
    omega arith
two_counted p (x ∷ xs) (suc i) zero a b e f ne t u =
    let same : x ≡ b = (let h : Some x ≡ Some b = f in cc) in
    let h = one_counted p xs i a e t in
    let k = one_more (count_by p (x ∷ xs)) (count_by p xs) (p x) (counted p x xs) (ap p same ∙ u) in
    omega arith
two_counted p (x ∷ xs) (suc i) (suc j) a b e f ne t u =
    let h = two_counted p xs i j a b e f (λ z. ne (ap suc z)) t u in
    let k = no_less (count_by p (x ∷ xs)) (count_by p xs) (p x) (counted p x xs) in
    omega arith
