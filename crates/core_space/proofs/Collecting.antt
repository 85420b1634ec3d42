-- The clusters of one block that are taken, one after another.
use Rattle.std.proofs.Common.{◌≡◌, ◌≤◌, ◌<◌, ◌+◌, ◌-◌, ◌*◌, ◌%◌, ◌++◌, ℕ, zero, suc, Bool, true, false, List, [], ◌∷◌, length, refl, sym, ap, subst, ◌∙◌, arith, append-nil, append_assoc, length-append}
use Rattle.std.specs.Prelude.{min, filter, take}
use Rattle.std.specs.List.{range_with_len, All}
use Rattle.std.proofs.lemmas.List.{take-append-le, length-take}
use Rattle.std.proofs.lemmas.List.Elements.{All-append}
use Rattle.std.proofs.lemmas.List.Sums.{fold-append}
use Rattle.base_words.specs.Fields.{Block}
use Rattle.fx_bitmap.specs.Bits.{bit_at, bits_put}
use Rattle.vol_parts.specs.declared.geometry.Geometry.{Geometry}
use Rattle.vol_spell.specs.Reading.{total_of}
use Rattle.core_space.specs.Searching.{free_in, with_taken, taken_in}
use Rattle.core_space.proofs.Ranges.{filter_passed, filter_failed}
use Rattle.core_space.proofs.Taken.{take_parts}

-- a cluster whose bit is set in a block
abbrev pub is_set : Block → ℕ → Bool
is_set b q = bit_at b (q % 4096)

-- what is taken of the clusters from a first one on up to another one
abbrev pub taken_to : ℕ → List ℕ → ℕ → Block → ℕ → List ℕ
taken_to wanted before first b q = take (wanted - length before) (filter (is_set b) (range_with_len first (q - first)))

pub record TakenTo (wanted : ℕ) (before : List ℕ) (first : ℕ) (b : Block) (taken : List ℕ) (left : Block) (q : ℕ) : Type 0 where
  pub taken_is : taken ≡ before ++ taken_to wanted before first b q
  pub left_is : left ≡ with_taken b (taken_to wanted before first b q)
  pub below : All (λ p. p < q) taken

none_to : (wanted : ℕ) (before : List ℕ) (first : ℕ) (b : Block) → taken_to wanted before first b first ≡ []
none_to wanted before first b =
    let e : first - first ≡ 0 = omega arith in
    ap (λ n. take (wanted - length before) (filter (is_set b) (range_with_len first n))) e ∙ nothing_of (wanted - length before) where
      nothing_of : (n : ℕ) → take n (filter (is_set b) (range_with_len first 0)) ≡ []
      nothing_of zero = refl
      nothing_of (suc n) = refl

pub taking_begins : (wanted : ℕ) (before : List ℕ) (first : ℕ) (b : Block) → All (λ p. p < first) before → TakenTo wanted before first b before b first
unfolding with_taken
taking_begins wanted before first b below =
    let none = none_to wanted before first b in
    record {
      taken_is = sym (append-nil before) ∙ ap (λ (xs : List ℕ). before ++ xs) (sym none);
      left_is = ap (λ (xs : List ℕ). with_taken b xs) (sym none);
      below = below;
    }

pub more_below : (xs : List ℕ) (q n : ℕ) → q ≤ n → All (λ p. p < q) xs → All (λ p. p < n) xs
more_below xs q n le below k d lt = let h = below k d lt in omega arith

-- a cluster that is not taken
not_taken : (wanted : ℕ) (before : List ℕ) (first : ℕ) (b : Block) (taken : List ℕ) (left : Block) (q : ℕ) → TakenTo wanted before first b taken left q → taken_to wanted before first b (q + 1) ≡ taken_to wanted before first b q → TakenTo wanted before first b taken left (q + 1)
not_taken wanted before first b taken left q t same = record {
  taken_is = t.taken_is ∙ ap (λ (xs : List ℕ). before ++ xs) (sym same);
  left_is = t.left_is ∙ ap (λ (xs : List ℕ). with_taken b xs) (sym same);
  below = more_below taken q (q + 1) (omega arith) t.below;
}

pub taking_skips : (wanted : ℕ) (before : List ℕ) (first : ℕ) (b : Block) (taken : List ℕ) (left : Block) (q : ℕ) → first ≤ q → TakenTo wanted before first b taken left q → bit_at b (q % 4096) ≡ false → TakenTo wanted before first b taken left (q + 1)
taking_skips wanted before first b taken left q le t clear =
    not_taken wanted before first b taken left q t
    (ap (take (wanted - length before)) (filter_failed (is_set b) first (q - first) (q + 1 - first) q (omega arith) (omega arith) clear))

-- one more cluster behind what fills a list
full_stays : (n : ℕ) (xs : List ℕ) (b : Block) (first m k q : ℕ) → (x : Bool) → bit_at b (q % 4096) ≡ x → k ≡ m + 1 → q ≡ first + m → n ≤ length (filter (is_set b) (range_with_len first m))
    → take n (filter (is_set b) (range_with_len first k)) ≡ take n (filter (is_set b) (range_with_len first m))
full_stays n xs b first m k q true t e f le = ap (take n) (filter_passed (is_set b) first m k q e f t) ∙ take-append-le n (filter (is_set b) (range_with_len first m)) (q ∷ []) le
full_stays n xs b first m k q false t e f le = ap (take n) (filter_failed (is_set b) first m k q e f t)

pub taking_full : (wanted : ℕ) (before : List ℕ) (first : ℕ) (b : Block) (taken : List ℕ) (left : Block) (q : ℕ) → first ≤ q → TakenTo wanted before first b taken left q → wanted ≤ length taken → TakenTo wanted before first b taken left (q + 1)
taking_full wanted before first b taken left q le t full =
    let free = filter (is_set b) (range_with_len first (q - first)) in
    let count = ap (λ (xs : List ℕ). length xs) t.taken_is ∙ length-append before (taken_to wanted before first b q) in
    let some = length-take (wanted - length before) free in
    not_taken wanted before first b taken left q t
    (full_stays (wanted - length before) free b first (q - first) (q + 1 - first) q (bit_at b (q % 4096)) refl (omega arith) (omega arith) (omega (arith, count, some)))

-- where as many are taken as are wanted, no cluster behind them is
pub full_on : (wanted : ℕ) (before : List ℕ) (first : ℕ) (b : Block) (taken : List ℕ) (left : Block) (q n : ℕ) → first ≤ q → TakenTo wanted before first b taken left q → wanted ≤ length taken → TakenTo wanted before first b taken left (q + n)
full_on wanted before first b taken left q zero le t full = subst (λ p. TakenTo wanted before first b taken left p) (omega arith) t
full_on wanted before first b taken left q (suc n) le t full =
    let next : q + n + 1 ≡ q + suc n = omega arith in
    subst (λ p. TakenTo wanted before first b taken left p) next (taking_full wanted before first b taken left (q + n) (omega arith) (full_on wanted before first b taken left q n le t full) full)

-- one more cluster that is taken
one_more : (n : ℕ) (xs : List ℕ) (q : ℕ) → length (take n xs) < n → take n (xs ++ q ∷ []) ≡ take n xs ++ q ∷ []
one_more n xs q lt =
    let rest : n - length (take n xs) ≡ suc (n - length (take n xs) - 1) = omega arith in
    take_parts n xs (q ∷ []) ∙ ap (λ m. take n xs ++ take m (q ∷ [])) rest ∙ nothing_more (n - length (take n xs) - 1) where
      nothing_more : (m : ℕ) → take n xs ++ take (suc m) (q ∷ []) ≡ take n xs ++ q ∷ []
      nothing_more zero = refl
      nothing_more (suc m) = refl

one_below : (xs : List ℕ) (q : ℕ) → All (λ p. p < q) xs → All (λ p. p < q + 1) (xs ++ q ∷ [])
one_below xs q below = All-append (λ p. p < q + 1) xs (q ∷ []) (more_below xs q (q + 1) (omega arith) below) single where
  single : All (λ p. p < q + 1) (q ∷ [])
  single zero d lt = let h : q < q + 1 = omega arith in h
  single (suc k) d lt = absurd (let h : suc k < 1 = lt in omega arith)

pub with_one_more : (b : Block) (xs : List ℕ) (q : ℕ) → with_taken b (xs ++ q ∷ []) ≡ bits_put (with_taken b xs) (q % 4096) 1 false
unfolding with_taken
with_one_more b xs q = fold-append (λ c p. bits_put c (p % 4096) 1 false) b xs (q ∷ [])

pub taking_goes_on : (wanted : ℕ) (before : List ℕ) (first : ℕ) (b : Block) (taken : List ℕ) (left : Block) (q : ℕ) → first ≤ q → TakenTo wanted before first b taken left q → length taken < wanted → bit_at b (q % 4096) ≡ true
    → TakenTo wanted before first b (taken ++ q ∷ []) (bits_put left (q % 4096) 1 false) (q + 1)
taking_goes_on wanted before first b taken left q le t lt set =
    let qs = taken_to wanted before first b q in
    let count = ap (λ (xs : List ℕ). length xs) t.taken_is ∙ length-append before qs in
    let more = ap (take (wanted - length before)) (filter_passed (is_set b) first (q - first) (q + 1 - first) q (omega arith) (omega arith) set)
    ∙ one_more (wanted - length before) (filter (is_set b) (range_with_len first (q - first))) q (omega (arith, count)) in
    record {
      taken_is = ap (λ (xs : List ℕ). xs ++ q ∷ []) t.taken_is ∙ append_assoc before qs (q ∷ []) ∙ ap (λ (xs : List ℕ). before ++ xs) (sym more);
      left_is = ap (λ (c : Block). bits_put c (q % 4096) 1 false) t.left_is ∙ sym (with_one_more b qs q) ∙ ap (λ (xs : List ℕ). with_taken b xs) (sym more);
      below = one_below taken q t.below;
    }

-- ---- the whole block

-- the clusters of a block are those from its first to its end, if there are any
pub taking_ends : (g : Geometry) (wanted : ℕ) (before : List ℕ) (k : ℕ) (b : Block) (q : ℕ) → 4096 * k ≤ q → q - 4096 * k ≡ min (4096 * k + 4096) (total_of g) - 4096 * k
    → taken_to wanted before (4096 * k) b q ≡ taken_in g wanted before k b
unfolding taken_in free_in
taking_ends g wanted before k b q le e = ap (λ n. take (wanted - length before) (filter (is_set b) (range_with_len (4096 * k) n))) e
