-- The numbers that a new header can take.
use Rattle.std.proofs.Common.{◌≡◌, ◌==◌, ◌&&◌, not, ◌||◌, ◌-◌, ◌+◌, ◌≤◌, ◌<◌, ◌∙◌, ℕ, Bool, true, false, List, [], ◌∷◌, Option, Some, None, is_none, nat_lt, length, get_or, cond, slice_get, refl, sym, ap, subst, arith}
use Rattle.std.specs.Prelude.{All}
use Rattle.std.specs.List.{count_by, list_any, range_with_len}
use Rattle.std.proofs.lemmas.Bool.Decides.{nat_tests}
use Rattle.std.proofs.lemmas.List.Folds.{list_any_none}
use Rattle.std.proofs.lemmas.List.FromFn.{length-range_with_len, get_or-range_with_len}
use Rattle.std.proofs.lemmas.List.Sums.{sum_by-cons}
use Rattle.plain_cat.specs.declared.cat.Cat.{Cat}
use Rattle.plain_rules.specs.Lookups.{is_free_slot, is_leaked, is_free_number, headers_more, has_free_number}
use Rattle.plain_rules.specs.Answers.{IsPick}

both_true : (a b : Bool) → a ≡ true → b ≡ true → a && b ≡ true
both_true true true h k = refl
both_true true false h k = absurd (cc k)
both_true false b h k = absurd (cc h)

first_of : (a b : Bool) → a && b ≡ true → a ≡ true
first_of true b h = refl
first_of false b h = absurd (cc h)

second_of : (a b : Bool) → a && b ≡ true → b ≡ true
second_of true b h = h
second_of false b h = absurd (cc h)

-- a free number is not 0
pub free_from : (c : Cat) (n : ℕ) → is_free_number c n ≡ true → 1 ≤ n
free_from c n h = decide (n == 0) refl h where
  decide : (b : Bool) → b ≡ (n == 0) → is_free_slot (cond b None (slice_get c.files (n - 1))) && not (is_leaked c n) ≡ true → 1 ≤ n
  decide true e k = absurd (cc k)
  decide false e k = grind (arith, nat_tests)

one_more : (b t : Bool) (n : ℕ) → nat_lt 0 n ≡ t → nat_lt 0 (cond b 1 0 + n) ≡ (b || t)
one_more true t n h = grind (arith, nat_tests)
one_more false t n h = let e : 0 + n ≡ n = omega arith in ap (nat_lt 0) e ∙ h

-- some element passes a test exactly where their count is above 0
pub count_any : (p : ℕ → Bool) (xs : List ℕ) → nat_lt 0 (count_by p xs) ≡ list_any p xs
count_any p [] = refl
count_any p (x ∷ xs) =
    ap (nat_lt 0) (sum_by-cons (λ (y : ℕ). cond (p y) 1 0) x xs) ∙ one_more (p x) (list_any p xs) (count_by p xs) (count_any p xs)

less_above : (a b : ℕ) → nat_lt 0 (a - b) ≡ true → nat_lt 0 a ≡ true
less_above a b h = grind (arith, nat_tests)

less_none : (a b : ℕ) → nat_lt 0 a ≡ false → nat_lt 0 (a - b) ≡ false
less_none a b h = grind (arith, nat_tests)

-- where none of the volume's numbers is free, a new header can have none
pub no_number : (c : Cat) → ((k : ℕ) → k < length c.files → is_free_number c (k + 1) ≡ false) → has_free_number c ≡ false
no_number c none = less_none (count_by (is_free_number c) numbers) (headers_more c) (count_any (is_free_number c) numbers ∙ list_any_none (is_free_number c) numbers each) where
  numbers : List ℕ
  numbers = range_with_len 1 (length c.files)

  each : All (λ (n : ℕ). is_free_number c n ≡ false) (range_with_len 1 (length c.files))
  each k d lt =
      let inside : k < length c.files = omega (arith, lt, length-range_with_len 1 (length c.files)) in
      let at : get_or (range_with_len 1 (length c.files)) k d ≡ 1 + k = get_or-range_with_len 1 (length c.files) k d inside in
      let same : k + 1 ≡ get_or (range_with_len 1 (length c.files)) k d = omega (arith, at) in
      subst (λ (n : ℕ). is_free_number c n ≡ false) same (none k inside)

some_of : (p : ℕ → Bool) (xs : List ℕ) → list_any p xs ≡ true → (x : ℕ) × (p x ≡ true)
some_of p [] e = absurd (cc e)
some_of p (y ∷ ys) e = by_test (p y) refl e (some_of p ys) where
  by_test : (b : Bool) → p y ≡ b → (b || list_any p ys) ≡ true → (list_any p ys ≡ true → (x : ℕ) × (p x ≡ true)) → (x : ℕ) × (p x ≡ true)
  by_test true is k more = (y, is)
  by_test false is k more = more k

-- and where a new header can have a number, one is free
pub number_of : (c : Cat) → has_free_number c ≡ true → (n : ℕ) × (is_free_number c n ≡ true)
number_of c h = some_of (is_free_number c) numbers (sym (count_any (is_free_number c) numbers) ∙ less_above (count_by (is_free_number c) numbers) (headers_more c) h) where
  numbers : List ℕ
  numbers = range_with_len 1 (length c.files)

-- a pick is a free number
pub pick_is_free : (c : Cat) (n : ℕ) → IsPick c (Some n) → is_free_number c n ≡ true
pick_is_free c n h = first_of (is_free_number c n) (has_free_number c) h

pub pick_of : (c : Cat) (n : ℕ) → is_free_number c n ≡ true → has_free_number c ≡ true → IsPick c (Some n)
pick_of c n h k = both_true (is_free_number c n) (has_free_number c) h k

-- a number is taken only where a new header can have one
pub pick_has : (c : Cat) (n : ℕ) → IsPick c (Some n) → has_free_number c ≡ true
pick_has c n h = second_of (is_free_number c n) (has_free_number c) h

-- so no pick is a number where another is none
pub one_pick : (c : Cat) (n : ℕ) → IsPick c None → IsPick c (Some n) → ⊥
one_pick c n none some = let both : false ≡ true = sym none ∙ pick_has c n some in cc both

-- of two picks, both are a number or both are none
pub picks_alike : (c : Cat) (new other : Option ℕ) → IsPick c new → IsPick c other → is_none new ≡ is_none other
picks_alike c None None p q = refl
picks_alike c None (Some n) p q = absurd (one_pick c n p q)
picks_alike c (Some m) None p q = absurd (one_pick c m q p)
picks_alike c (Some m) (Some n) p q = refl
