-- Numbers in a row, and what a test finds and keeps of them.
use Rattle.std.proofs.Common.{◌≡◌, ◌<◌, ◌+◌, ◌-◌, ◌++◌, ℕ, zero, suc, Bool, true, false, List, [], ◌∷◌, Option, Some, None, length, sym, ap, ◌∙◌, arith, cond, append-nil}
use Rattle.std.proofs.lemmas.List.{get_or-take, get_or_default, length-take}
use Rattle.std.specs.Prelude.{find, filter, take, slice_index_or}
use Rattle.std.specs.Option.{option_or}
use Rattle.std.specs.List.{range_with_len}
use Rattle.std.specs.List.Sorted.{IsStrictlyIncreasing}
use Rattle.std.proofs.lemmas.List.Elements.{filter-append}
use Rattle.std.proofs.lemmas.List.Folds.{find-append}
use Rattle.base_words.proofs.Listing.{rises}

pub range_parts : (a m n : ℕ) → range_with_len a (m + n) ≡ range_with_len a m ++ range_with_len (a + m) n
range_parts a zero n = ap (λ k. range_with_len a k) (let e : 0 + n ≡ n = omega arith in e) ∙ ap (λ k. range_with_len k n) (let e : a ≡ a + 0 = omega arith in e)
range_parts a (suc m) n =
    ap (λ k. range_with_len a k) (let e : suc m + n ≡ suc (m + n) = omega arith in e)
    ∙ ap (λ xs. a ∷ xs) (range_parts (a + 1) m n ∙ ap (λ k. range_with_len (a + 1) m ++ range_with_len k n) (let e : a + 1 + m ≡ a + suc m = omega arith in e))

-- one more number
filter_more : (p : ℕ → Bool) (a m : ℕ) → filter p (range_with_len a (m + 1)) ≡ filter p (range_with_len a m) ++ cond (p (a + m)) ((a + m) ∷ []) []
filter_more p a m = ap (filter p) (range_parts a m 1) ∙ filter-append p (range_with_len a m) (range_with_len (a + m) 1)

pub filter_passed : (p : ℕ → Bool) (a m n q : ℕ) → n ≡ m + 1 → q ≡ a + m → p q ≡ true → filter p (range_with_len a n) ≡ filter p (range_with_len a m) ++ q ∷ []
filter_passed p a m n q e f t =
    ap (λ k. filter p (range_with_len a k)) e ∙ filter_more p a m
    ∙ ap (λ x. filter p (range_with_len a m) ++ cond (p x) (x ∷ []) []) (sym f)
    ∙ ap (λ b. filter p (range_with_len a m) ++ cond b (q ∷ []) []) t

pub filter_failed : (p : ℕ → Bool) (a m n q : ℕ) → n ≡ m + 1 → q ≡ a + m → p q ≡ false → filter p (range_with_len a n) ≡ filter p (range_with_len a m)
filter_failed p a m n q e f t =
    ap (λ k. filter p (range_with_len a k)) e ∙ filter_more p a m
    ∙ ap (λ x. filter p (range_with_len a m) ++ cond (p x) (x ∷ []) []) (sym f)
    ∙ ap (λ b. filter p (range_with_len a m) ++ cond b (q ∷ []) []) t
    ∙ append-nil (filter p (range_with_len a m))

-- the first that passes
find_next : (p : ℕ → Bool) (a m n : ℕ) → find p (range_with_len a m) ≡ None → find p (range_with_len a (m + n)) ≡ find p (range_with_len (a + m) n)
find_next p a m n e =
    ap (find p) (range_parts a m n) ∙ find-append p (range_with_len a m) (range_with_len (a + m) n)
    ∙ ap (λ (o : Option ℕ). option_or o (find p (range_with_len (a + m) n))) e

pub find_here : (p : ℕ → Bool) (a m total q : ℕ) → find p (range_with_len a m) ≡ None → q ≡ a + m → m < total → p q ≡ true → find p (range_with_len a total) ≡ Some q
find_here p a m total q e f lt t =
    let rest = total - (m + 1) in
    let all : total ≡ m + suc rest = omega arith in
    ap (λ k. find p (range_with_len a k)) all ∙ find_next p a m (suc rest) e
    ∙ ap (λ x. cond (p x) (Some x) (find p (range_with_len (x + 1) rest))) (sym f)
    ∙ ap (λ b. cond b (Some q) (find p (range_with_len (q + 1) rest))) t

pub find_on : (p : ℕ → Bool) (a m n q : ℕ) → find p (range_with_len a m) ≡ None → n ≡ m + 1 → q ≡ a + m → p q ≡ false → find p (range_with_len a n) ≡ None
find_on p a m n q e f g t =
    ap (λ k. find p (range_with_len a k)) f ∙ find_next p a m 1 e
    ∙ ap (λ x. cond (p x) (Some x) None) (sym g)
    ∙ ap (λ b. cond b (Some q) None) t

pub below_next : (xs : List ℕ) (i : ℕ) → IsStrictlyIncreasing xs → i < length xs → (k d : ℕ) → k < length (take i xs) → slice_index_or (take i xs) k d < slice_index_or xs i 0
below_next xs i up lt k d inside =
    let count = length-take i xs in
    let before : k < i = omega arith in
    let within : k < length xs = omega arith in
    rw (get_or-take i xs k d before, get_or_default xs k d 0 within) (rises xs up k i before lt)
