-- Lists along a range of numbers, and what stands behind them.
use Rattle.std.proofs.Common.{◌≡◌, ◌∙◌, ◌+◌, ◌<◌, ◌≤◌, ℕ, zero, suc, Bool, true, false, cond, List, [], ◌∷◌, ◌++◌, map, replicate, length, filter, refl, subst, arith, ⊎_elim}
use Rattle.std.specs.Prelude.{◌||◌, slice_get, None}
use Rattle.std.specs.List.{range_with_len, list_any, count_by}
use Rattle.std.proofs.lemmas.Bool.{cases_lt}
use Rattle.std.proofs.lemmas.List.Sums.{sum_by-cons}
use Rattle.plain_cat.specs.declared.cat.Slot.{Slot}
use Rattle.plain_cat.specs.declared.cat.Slot.TheVariants.{Free}
use Rattle.plain_rules.specs.Lookups.{file_in}
use Rattle.plain_rules.specs.Mending.{numbers_from, each_from, places_from}

-- P holds of so many numbers from a first one on
abbrev AllFrom : (ℕ → Type 0) → ℕ → ℕ → Type 0
AllFrom P a zero = Unit {0}
AllFrom P a (suc k) = P a × AllFrom P (a + 1) k

pick : (P : ℕ → Type 0) (a k n : ℕ) → AllFrom P a k → a ≤ n → n < a + k → P n
pick P a zero n all low high = absurd (omega arith)
pick P a (suc k) n all low high =
    ⊎_elim (λ (h : a < n). pick P (a + 1) k n all.1 (omega arith) (omega arith))
    (λ (h : n ≤ a). let same : a ≡ n = omega arith in subst P same all.0)
    (cases_lt a n)

-- what holds of each number of a system file
pub by_number : (P : ℕ → Type 0) → P 1 → P 2 → P 3 → P 4 → P 5 → P 6 → P 7 → P 8 → P 9 → P 10 → P 11 → (n : ℕ) → 1 ≤ n → n ≤ 11 → P n
by_number P a b c d e f g h i j k n low high =
    pick P 1 11 n (a, (b, (c, (d, (e, (f, (g, (h, (i, (j, (k, tt))))))))))) low (omega arith)

all_same : {X : Type 0} (f : ℕ → X) (x : X) (a m : ℕ) → ((n : ℕ) → a ≤ n → n < a + m → f n ≡ x) → map f (range_with_len a m) ≡ replicate m x
all_same f x a zero each = refl
all_same f x a (suc m) each =
    let first = each a (omega arith) (omega arith) in
    let rest = all_same f x (a + 1) m (λ n low high. each n (omega arith) (omega arith)) in
    λ i. first i ∷ rest i

-- a function along a range that is another one on its front, and constant behind that
pub split_map : {X : Type 0} (f g : ℕ → X) (x : X) (a k m : ℕ) → ((n : ℕ) → a ≤ n → n < a + k → f n ≡ g n) → ((n : ℕ) → a + k ≤ n → n < a + k + m → f n ≡ x)
    → map f (range_with_len a (k + m)) ≡ map g (range_with_len a k) ++ replicate m x
split_map f g x a zero m first later =
    let none : 0 + m ≡ m = omega arith in
    rw none (all_same f x a m (λ n low high. later n (omega arith) (omega arith)))
split_map f g x a (suc k) m first later =
    let more : suc k + m ≡ suc (k + m) = omega arith in
    let here = first a (omega arith) (omega arith) in
    let rest = split_map f g x (a + 1) k m (λ n low high. first n (omega arith) (omega arith)) (λ n low high. later n (omega arith) (omega arith)) in
    rw more (λ i. here i ∷ rest i)

pub constant_map : {X : Type 0} (f : ℕ → X) (x : X) (a m : ℕ) → ((n : ℕ) → a ≤ n → n < a + m → f n ≡ x) → map f (range_with_len a m) ≡ replicate m x
constant_map f x a m each = all_same f x a m each

-- ---- tests along a range

pub none_counted : (p : ℕ → Bool) (a k : ℕ) → ((n : ℕ) → a ≤ n → n < a + k → p n ≡ false) → count_by p (range_with_len a k) ≡ 0
none_counted p a zero each = refl
none_counted p a (suc k) each =
    let rest = none_counted p (a + 1) k (λ n low high. each n (omega arith) (omega arith)) in
    let more = sum_by-cons (λ x. cond (p x) 1 0) a (range_with_len (a + 1) k) in
    more ∙ rw (each a (omega arith) (omega arith), rest) refl

pub none_kept : (p : ℕ → Bool) (a k : ℕ) → ((n : ℕ) → a ≤ n → n < a + k → p n ≡ false) → filter p (range_with_len a k) ≡ []
none_kept p a zero each = refl
none_kept p a (suc k) each = rw (each a (omega arith) (omega arith)) (none_kept p (a + 1) k (λ n low high. each n (omega arith) (omega arith)))

-- a number of a range that passes a test
pub record HasNumber (p : ℕ → Bool) (a k : ℕ) : Type 0 where
  pub number : ℕ
  pub low : a ≤ number
  pub high : number < a + k
  pub passes : p number ≡ true

pub any_number : (p : ℕ → Bool) (a k : ℕ) → list_any p (range_with_len a k) ≡ true → HasNumber p a k
any_number p a zero e = absurd (cc)
any_number p a (suc k) e = by_test (p a) refl e (λ more. any_number p (a + 1) k more) where
  by_test : (t : Bool) → p a ≡ t → (t || list_any p (range_with_len (a + 1) k)) ≡ true → (list_any p (range_with_len (a + 1) k) ≡ true → HasNumber p (a + 1) k) → HasNumber p a (suc k)
  by_test true is more rest = record { number = a; low = omega arith; high = omega arith; passes = is }
  by_test false is more rest =
      let h = rest more in
      let low = h.low in
      let high = h.high in
      record { number = h.number; low = omega arith; high = omega arith; passes = h.passes }

pub number_any : (p : ℕ → Bool) (a k n : ℕ) → a ≤ n → n < a + k → p n ≡ true → list_any p (range_with_len a k) ≡ true
number_any p a zero n low high e = absurd (omega arith)
number_any p a (suc k) n low high e =
    ⊎_elim (λ (h : a < n). by_test (p a) (number_any p (a + 1) k n (omega arith) (omega arith) e))
    (λ (h : n ≤ a). let same : n ≡ a = omega arith in let here : p a ≡ true = subst (λ m. p m ≡ true) same e in rw here refl)
    (cases_lt a n) where
      by_test : (t : Bool) → list_any p (range_with_len (a + 1) k) ≡ true → (t || list_any p (range_with_len (a + 1) k)) ≡ true
      by_test true more = refl
      by_test false more = more

-- ---- slots along a range, and the same slot behind them

none_behind : (p : ℕ → Slot → Bool) (s : Slot) (a m : ℕ) → ((n : ℕ) → p n s ≡ false) → numbers_from p a (replicate m s) ≡ []
none_behind p s a zero each = refl
none_behind p s a (suc m) each = rw (each a) (none_behind p s (a + 1) m each)

-- no slot passes a test
pub none_from : (p : ℕ → Slot → Bool) (g : ℕ → Slot) (s : Slot) (a k m : ℕ) → ((n : ℕ) → a ≤ n → n < a + k → p n (g n) ≡ false) → ((n : ℕ) → p n s ≡ false)
    → numbers_from p a (map g (range_with_len a k) ++ replicate m s) ≡ []
none_from p g s a zero m first later = none_behind p s a m later
none_from p g s a (suc k) m first later =
    rw (first a (omega arith) (omega arith)) (none_from p g s (a + 1) k m (λ n low high. first n (omega arith) (omega arith)) later)

same_behind : (ch : ℕ → Slot → Slot) (s : Slot) (a m : ℕ) → ((n : ℕ) → ch n s ≡ s) → each_from ch a (replicate m s) ≡ replicate m s
same_behind ch s a zero each = refl
same_behind ch s a (suc m) each = let here = each a in let rest = same_behind ch s (a + 1) m each in λ i. here i ∷ rest i

-- no slot changes
pub same_from : (ch : ℕ → Slot → Slot) (g : ℕ → Slot) (s : Slot) (a k m : ℕ) → ((n : ℕ) → a ≤ n → n < a + k → ch n (g n) ≡ g n) → ((n : ℕ) → ch n s ≡ s)
    → each_from ch a (map g (range_with_len a k) ++ replicate m s) ≡ map g (range_with_len a k) ++ replicate m s
same_from ch g s a zero m first later = same_behind ch s a m later
same_from ch g s a (suc k) m first later =
    let here = first a (omega arith) (omega arith) in
    let rest = same_from ch g s (a + 1) k m (λ n low high. first n (omega arith) (omega arith)) later in
    λ i. here i ∷ rest i

-- free slots have no entries
pub no_places : (a m seq : ℕ) → places_from a (replicate m (Free seq)) ≡ []
no_places a zero seq = refl
no_places a (suc m) seq = no_places (a + 1) m seq

free_behind : (m seq i : ℕ) → file_in (slice_get (replicate m (Free seq)) i) ≡ None
free_behind zero seq i = refl
free_behind (suc m) seq zero = refl
free_behind (suc m) seq (suc i) = free_behind m seq i

-- and no file
pub no_file : (xs : List Slot) (m seq i : ℕ) → length xs ≤ i → file_in (slice_get (xs ++ replicate m (Free seq)) i) ≡ None
no_file [] m seq i past = free_behind m seq i
no_file (x ∷ xs) m seq zero past = absurd (omega arith)
no_file (x ∷ xs) m seq (suc i) past = no_file xs m seq i (omega arith)
