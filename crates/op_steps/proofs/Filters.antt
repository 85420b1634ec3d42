-- What a test lets through, numbers in a row that rise, and lists that were mapped.
use Rattle.std.proofs.Common.{◌≡◌, ◌∙◌, ◌<◌, ◌+◌, ℕ, zero, suc, Bool, true, false, List, [], ◌∷◌, length, map, refl, sym, ap, inl, inr, arith}
use Rattle.std.specs.Prelude.{filter}
use Rattle.std.specs.List.{range_with_len, list_any}
use Rattle.base_words.specs.Lists.{Has, Once}
use Rattle.vol_spell.proofs.Placing.{has_ranged}
use Rattle.base_words.proofs.Listing.{has_filtered}

-- some item passes
pub any_has : {A : Type 0} (p : A → Bool) (xs : List A) → list_any p xs ≡ true → (x : A) × Has xs x × (p x ≡ true)
any_has p [] e = absurd (let f : false ≡ true = e in cc)
any_has {A} p (y ∷ xs) e = by_test (p y) refl (any_has p xs) where
  by_test : (b : Bool) → p y ≡ b → (list_any p xs ≡ true → (x : A) × Has xs x × (p x ≡ true)) → (x : A) × Has (y ∷ xs) x × (p x ≡ true)
  by_test true f more = (y, inl refl, f)
  by_test false f more = let g : list_any p xs ≡ true = rw f at e in let r = more g in (r.0, inr r.1, r.2)

pub has_any : {A : Type 0} (p : A → Bool) (xs : List A) (x : A) → Has xs x → p x ≡ true → list_any p xs ≡ true
has_any p [] x t e = absurd t
has_any p (y ∷ xs) x t e = by_test (p y) refl (λ u. has_any p xs x u e) where
  by_test : (b : Bool) → p y ≡ b → (Has xs x → list_any p xs ≡ true) → list_any p (y ∷ xs) ≡ true
  by_test true f more = rw f refl
  by_test false f more = rw f (elim t [ inl same ↦ absurd (let g : true ≡ false = sym e ∙ ap p (sym same) ∙ f in cc) | inr u ↦ more u ])

-- each number is lower than those behind it
abbrev pub Rise : List ℕ → Type 0
Rise [] = Unit {0}
Rise (k ∷ ks) = ((j : ℕ) → Has ks j → k < j) × Rise ks

pub ranged_rise : (p : ℕ → Bool) (a n : ℕ) → Rise (filter p (range_with_len a n))
ranged_rise p a zero = tt
ranged_rise p a (suc n) = by_test (p a) refl (ranged_rise p (a + 1) n) where
  by_test : (b : Bool) → p a ≡ b → Rise (filter p (range_with_len (a + 1) n)) → Rise (filter p (range_with_len a (suc n)))
  by_test true f ih = rw f ((λ j t. let h = (has_ranged (a + 1) n j (has_filtered p (range_with_len (a + 1) n) j t).0).0 in omega arith), ih)
  by_test false f ih = rw f ih

pub rise_once : (ks : List ℕ) → Rise ks → Once ks
rise_once [] r = tt
rise_once (k ∷ ks) r = ((λ t. let h = r.0 k t in absurd (omega arith)), rise_once ks r.1)

-- what is in a list that was mapped
pub mapped : {A B : Type 0} (f : A → B) (xs : List A) (y : B) → Has (map f xs) y → (x : A) × Has xs x × (f x ≡ y)
mapped f [] y t = absurd t
mapped f (x ∷ xs) y (inl e) = (x, inl refl, e)
mapped f (x ∷ xs) y (inr t) = let r = mapped f xs y t in (r.0, inr r.1, r.2)

pub has_mapped : {A B : Type 0} (f : A → B) (xs : List A) (x : A) → Has xs x → Has (map f xs) (f x)
has_mapped f [] x t = absurd t
has_mapped f (y ∷ xs) x (inl e) = inl (ap f e)
has_mapped f (y ∷ xs) x (inr t) = inr (has_mapped f xs x t)

pub length_mapped : {A B : Type 0} (f : A → B) (xs : List A) → length (map f xs) ≡ length xs
length_mapped f [] = refl
length_mapped f (x ∷ xs) = ap suc (length_mapped f xs)

-- two lists that rise and have the same items are one
pub rise_same : (xs ys : List ℕ) → Rise xs → Rise ys → ((x : ℕ) → Has xs x → Has ys x) → ((x : ℕ) → Has ys x → Has xs x) → xs ≡ ys
rise_same [] [] r s to from = refl
rise_same [] (y ∷ ys) r s to from = absurd (from y (inl refl))
rise_same (x ∷ xs) [] r s to from = absurd (to x (inl refl))
rise_same (x ∷ xs) (y ∷ ys) r s to from =
    let first : x ≡ y = heads (to x (inl refl)) (from y (inl refl)) in
    let rest = rise_same xs ys r.1 s.1
    (λ z t. elim (to z (inr t)) [ inl e ↦ (let lt = r.0 z t in absurd (let f : y ≡ z = e in omega arith)) | inr u ↦ u ])
    (λ z t. elim (from z (inr t)) [ inl e ↦ (let lt = s.0 z t in absurd (let f : x ≡ z = e in omega arith)) | inr u ↦ u ]) in
    ap (λ z. z ∷ xs) first ∙ ap (λ zs. y ∷ zs) rest where
      heads : Has (y ∷ ys) x → Has (x ∷ xs) y → x ≡ y
      heads (inl e) t = sym e
      heads (inr t) (inl e) = e
      heads (inr t) (inr u) = let a = s.0 x t in let b = r.0 y u in absurd (omega arith)
