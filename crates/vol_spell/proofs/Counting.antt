-- How many things an owner has.
use Rattle.std.proofs.Common.{◌≡◌, ◌≢◌, ◌+◌, ℕ, Bool, true, false, List, [], ◌∷◌, ◌++◌, Some, length, slice_get, slice_set, get_or, suc, refl, sym, ap, subst, ◌∙◌, inl, inr, arith, cond}
use Rattle.std.specs.Prelude.{count_by, sum_by}
use Rattle.std.proofs.lemmas.Bool.Decides.{nat_tests}
use Rattle.std.proofs.lemmas.Option.{slice_get_within, get_or_from_slice_get}
use Rattle.std.proofs.lemmas.List.Sums.{sum_by-set, sum_by-cons}
use Rattle.vol_spell.specs.declared.owner.Owner.{Owner}
use Rattle.vol_spell.specs.declared.owner.Owner.TheVariants.{Free, InFile, Outside, Leaked}
use Rattle.base_words.specs.Lists.{Has}
use Rattle.vol_spell.specs.Hands.{handed, AreOf}
use Rattle.vol_spell.specs.Counts.{is_same_owner, HandingCounts, CountsList, OutCounts}
use Rattle.base_words.proofs.Listing.{has_parted, has_first, has_second}
use Rattle.base_words.proofs.ListWrites.{get-set_else}
use Rattle.vol_spell.proofs.Handing.{are_handed}

-- a number for each of a list's items, where the test holds
some_more : (b : Bool) (k : ℕ) → cond b (suc k) 0 ≡ cond b 1 0 + cond b k 0
some_more true k = omega arith
some_more false k = omega arith

none_more : (b : Bool) → cond {A = ℕ} b 0 0 ≡ 0
none_more true = refl
none_more false = refl

adds : (after before mid was now more_a more_o all_a all_o : ℕ) → mid + was ≡ before + now → after + more_a ≡ mid + more_o → all_a ≡ was + more_a → all_o ≡ now + more_o → after + all_a ≡ before + all_o
adds after before mid was now more_a more_o all_a all_o e f g h = omega arith

pub handing_counts : HandingCounts
handing_counts p [] a o xs once at = ap (λ k. count_by p xs + k) (none_more (p a) ∙ sym (none_more (p o)))
handing_counts p (q ∷ qs) a o xs once at =
    let here : slice_get xs q ≡ Some a = at q (inl refl) in
    let f : Owner → ℕ = λ x. cond (p x) 1 0 in
    let was : f (get_or xs q Free) ≡ f a = ap f (get_or_from_slice_get xs q a Free here) in
    let one : count_by p (slice_set xs q o) + f a ≡ count_by p xs + f o = ap (λ k. count_by p (slice_set xs q o) + k) (sym was) ∙ sum_by-set f xs q o Free (slice_get_within xs q a here) in
    let rest = handing_counts p qs a o (slice_set xs q o) once.1 (λ k t. get-set_else xs q k o (λ e. once.0 (subst (λ (j : ℕ). Has qs j) (sym e) t)) ∙ at k (inr t)) in
    adds _ _ _ _ _ _ _ _ _ one rest (some_more (p a) (length qs)) (some_more (p o) (length qs))

same_self : (a : Owner) → is_same_owner a a ≡ true
unfolding is_same_owner
same_self Free = refl
same_self (InFile i) = grind (arith, nat_tests)
same_self (Outside n) = grind (arith, nat_tests)
same_self Leaked = refl

is_same : (a o : Owner) → is_same_owner a o ≡ true → o ≡ a
unfolding is_same_owner
is_same Free Free e = refl
is_same (InFile i) (InFile j) e = ap InFile (let h : j ≡ i = grind (arith, nat_tests) in h)
is_same (Outside n) (Outside m) e = ap Outside (let h : m ≡ n = grind (arith, nat_tests) in h)
is_same Leaked Leaked e = refl
is_same _ _ e = absurd (let f : false ≡ true = e in cc)

-- an owner who has nothing counts nothing
none_of : (a : Owner) (xs : List Owner) → ((q : ℕ) → slice_get xs q ≢ Some a) → count_by (is_same_owner a) xs ≡ 0
none_of a [] none = refl
none_of a (x ∷ xs) none =
    let f : Owner → ℕ = λ o. cond (is_same_owner a o) 1 0 in
    let here : f x ≡ 0 = by_test (is_same_owner a x) refl in
    let rest : count_by (is_same_owner a) xs ≡ 0 = none_of a xs (λ q. none (suc q)) in
    sum_by-cons f x xs ∙ (let e : f x + sum_by f xs ≡ 0 = omega (arith, here, rest) in e) where
      by_test : (b : Bool) → is_same_owner a x ≡ b → cond {A = ℕ} (is_same_owner a x) 1 0 ≡ 0
      by_test true e = absurd (none 0 (ap (λ o. Some o) (is_same a x e)))
      by_test false e = ap (λ b. cond b 1 0) e

all_of : (after before : ℕ) (b c : Bool) (k : ℕ) → after + cond b k 0 ≡ before + cond c k 0 → after ≡ 0 → b ≡ true → c ≡ false → before ≡ k
all_of after before true false k e left f g = let h : after + k ≡ before + 0 = e in omega arith
all_of after before true true k e left f g = absurd (cc)
all_of after before false c k e left f g = absurd (cc)

-- an owner who is not this one
another : (a : Owner) → (b : Owner) × (b ≢ a)
another Free = (Leaked, λ e. absurd (cc))
another (InFile i) = (Free, λ e. absurd (cc))
another (Outside n) = (Free, λ e. absurd (cc))
another Leaked = (Free, λ e. absurd (cc))

not_same : (a b : Owner) → b ≢ a → is_same_owner a b ≡ false
not_same a b ne = by_test (is_same_owner a b) refl where
  by_test : (k : Bool) → is_same_owner a b ≡ k → is_same_owner a b ≡ false
  by_test true e = absurd (ne (is_same a b e))
  by_test false e = e

pub counts_list : CountsList
counts_list a qs xs once has =
    let o = another a in
    let at : AreOf qs a xs = λ q t. (has q).0 t in
    let h = are_handed qs a o.0 xs at o.1 in
    let left : count_by (is_same_owner a) (handed qs o.0 xs) ≡ 0 = none_of a (handed qs o.0 xs) (λ q e. let f = (h.from q).0 e in f.1 ((has q).1 f.0)) in
    let e = handing_counts (is_same_owner a) qs a o.0 xs once at in
    all_of _ _ _ _ (length qs) e left (same_self a) (not_same a o.0 o.1)

pub out_counts : OutCounts
out_counts n took stock xs out = counts_list (Outside n) (took ++ stock) xs out.once (λ q. (
  (λ t. (out.all q).1 (has_parted took stock q t)),
  (λ e. elim ((out.all q).0 e) [ inl u ↦ has_first took stock q u | inr u ↦ has_second took stock q u ]),
))
