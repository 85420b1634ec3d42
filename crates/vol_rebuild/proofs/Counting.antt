-- How many files there are, once a slot has changed.
use Rattle.std.proofs.Common.{◌≡◌, ◌+◌, ◌∙◌, zero, suc, ℕ, Bool, true, false, cond, List, [], ◌∷◌, Some, slice_get, slice_set, refl, sym, ap, arith}
use Rattle.std.specs.List.{count_by}
use Rattle.std.proofs.lemmas.List.Recursion.{is_count_by}
use Rattle.plain_cat.specs.declared.cat.File.{File}
use Rattle.plain_cat.specs.declared.cat.Slot.{Slot}
use Rattle.plain_cat.specs.declared.cat.Slot.TheVariants.{Used, Free}
use Rattle.plain_rules.specs.Mending.{is_used}

abbrev used_of : List Slot → ℕ
used_of [] = 0
used_of (s ∷ ss) = cond (is_used s) (1 + used_of ss) (used_of ss)

used_is : (ss : List Slot) → used_of ss ≡ count_by is_used ss
used_is ss = is_count_by used_of is_used refl (λ x xs. refl) ss

still : (ss : List Slot) (i : ℕ) (f h : File) → slice_get ss i ≡ Some (Used f) → used_of (slice_set ss i (Used h)) ≡ used_of ss
still [] i f h at = refl
still (s ∷ ss) zero f h at = let same : s ≡ Used f = cc at in ap (λ (x : Slot). used_of (x ∷ ss)) (sym same)
still (s ∷ ss) (suc i) f h at = ap (λ k. cond (is_used s) (1 + k) k) (still ss i f h at)

one_more : (b : Bool) (x y : ℕ) → x + 1 ≡ y → cond b (1 + x) x + 1 ≡ cond b (1 + y) y
one_more true x y e = omega (arith, e)
one_more false x y e = e

less : (ss : List Slot) (i : ℕ) (f : File) (seq : ℕ) → slice_get ss i ≡ Some (Used f) → used_of (slice_set ss i (Free seq)) + 1 ≡ used_of ss
less [] i f seq at = absurd (cc at)
less (s ∷ ss) zero f seq at = let same : s ≡ Used f = cc at in let one : used_of ss + 1 ≡ 1 + used_of ss = omega arith in one ∙ ap (λ (x : Slot). used_of (x ∷ ss)) (sym same)
less (s ∷ ss) (suc i) f seq at = one_more (is_used s) (used_of (slice_set ss i (Free seq))) (used_of ss) (less ss i f seq at)

-- another file in a slot that has one
pub used_still : (ss : List Slot) (i : ℕ) (f h : File) → slice_get ss i ≡ Some (Used f) → count_by is_used (slice_set ss i (Used h)) ≡ count_by is_used ss
used_still ss i f h at = sym (used_is (slice_set ss i (Used h))) ∙ (still ss i f h at ∙ used_is ss)

-- one file less
pub used_less : (ss : List Slot) (i : ℕ) (f : File) (seq : ℕ) → slice_get ss i ≡ Some (Used f) → count_by is_used (slice_set ss i (Free seq)) + 1 ≡ count_by is_used ss
used_less ss i f seq at = ap (λ k. k + 1) (sym (used_is (slice_set ss i (Free seq)))) ∙ (less ss i f seq at ∙ used_is ss)
