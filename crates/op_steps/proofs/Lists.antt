-- Items that are set behind the first ones of a list.
use Rattle.std.proofs.Common.{◌≡◌, ◌∙◌, ◌≤◌, ◌<◌, ◌+◌, ◌-◌, ◌++◌, ℕ, zero, suc, List, [], ◌∷◌, length, map, take, slice_set, append_assoc, sym, ap, arith}
use Rattle.std.specs.Prelude.{replicate}
use Rattle.std.specs.List.{range_with_len}
use Rattle.std.proofs.lemmas.List.{append-nil, take_more_set, length-set}
use Rattle.base_words.specs.Lists.{written}
use Rattle.base_words.proofs.ListWrites.{length-written}

-- the same item at j places behind the first m
abbrev pub filled : {A : Type 0} → ℕ → ℕ → A → List (ℕ × A)
filled m j z = map (λ v. (v - 1, z)) (range_with_len (m + 1) j)

-- then the first m + j items are the first m and j times that item
pub take_filled : {A : Type 0} (z : A) (j m : ℕ) (xs : List A) → m + j ≤ length xs → take (m + j) (written (filled m j z) xs) ≡ take m xs ++ replicate j z
take_filled z zero m xs le = ap (λ k. take k xs) (let e : m + 0 ≡ m = omega arith in e) ∙ sym (append-nil (take m xs))
take_filled z (suc j) m xs le =
    let len = length-set xs m z in
    let at : m + 1 - 1 ≡ m = omega arith in
    let count : m + suc j ≡ m + 1 + j = omega arith in
    ap (λ i. take (m + suc j) (written (filled (m + 1) j z) (slice_set xs i z))) at
    ∙ ap (λ k. take k (written (filled (m + 1) j z) (slice_set xs m z))) count
    ∙ take_filled z j (m + 1) (slice_set xs m z) (omega arith)
    ∙ ap (λ ys. ys ++ replicate j z) (take_more_set xs m z (omega arith))
    ∙ append_assoc (take m xs) (z ∷ []) (replicate j z)

-- and with another one behind these
pub take_last : {A : Type 0} (z b : A) (j m : ℕ) (xs : List A) → m + j < length xs
    → take (m + j + 1) (slice_set (written (filled m j z) xs) (m + j) b) ≡ take m xs ++ (replicate j z ++ b ∷ [])
take_last z b j m xs lt =
    let len = length-written (filled m j z) xs in
    take_more_set (written (filled m j z) xs) (m + j) b (omega arith)
    ∙ ap (λ ys. ys ++ b ∷ []) (take_filled z j m xs (omega arith))
    ∙ append_assoc (take m xs) (replicate j z) (b ∷ [])

-- the same by where the first of them and the last one stand, which count from 1
pub take_behind : {A : Type 0} (z b : A) (first last : ℕ) (xs : List A) → 1 ≤ first → first ≤ last → last ≤ length xs
    → take last (slice_set (written (filled (first - 1) (last - first) z) xs) (last - 1) b) ≡ take (first - 1) xs ++ (replicate (last - first) z ++ b ∷ [])
take_behind z b first last xs low to le =
    let at : last - 1 ≡ first - 1 + (last - first) = omega arith in
    let all : last ≡ first - 1 + (last - first) + 1 = omega arith in
    ap (λ i. take last (slice_set (written (filled (first - 1) (last - first) z) xs) i b)) at
    ∙ ap (λ k. take k (slice_set (written (filled (first - 1) (last - first) z) xs) (first - 1 + (last - first)) b)) all
    ∙ take_last z b (last - first) (first - 1) xs (omega arith)
