-- Lists that are filtered twice.
use Rattle.std.proofs.Common.{◌≡◌, ◌≤◌, ◌+◌, ◌∙◌, suc, Bool, true, false, cond, List, [], ◌∷◌, length, refl, sym, ap, arith}
use Rattle.std.specs.Prelude.{filter}

-- whichever test comes first
pub filter_swap : {X : Type 0} (a b : X → Bool) (xs : List X) → filter a (filter b xs) ≡ filter b (filter a xs)
filter_swap a b [] = refl
filter_swap {X} a b (x ∷ xs) = by_case (a x) (b x) refl refl (filter_swap a b xs) where
  by_case : (p q : Bool) → a x ≡ p → b x ≡ q → filter a (filter b xs) ≡ filter b (filter a xs)
      → filter a (cond q (x ∷ filter b xs) (filter b xs)) ≡ filter b (cond p (x ∷ filter a xs) (filter a xs))
  by_case true true e f ih =
      ap (λ c. cond c (x ∷ filter a (filter b xs)) (filter a (filter b xs))) e ∙ (ap (λ zs. x ∷ zs) ih
      ∙ sym (ap (λ c. cond c (x ∷ filter b (filter a xs)) (filter b (filter a xs))) f))
  by_case true false e f ih = ih ∙ sym (ap (λ c. cond c (x ∷ filter b (filter a xs)) (filter b (filter a xs))) f)
  by_case false true e f ih = ap (λ c. cond c (x ∷ filter a (filter b xs)) (filter a (filter b xs))) e ∙ ih
  by_case false false e f ih = ih

-- of those that pass the one test no more fail the other than of all
pub filter_fails : {X : Type 0} (g f : X → Bool) (xs : List X) → length (filter g xs) + length (filter f xs) ≤ length xs + length (filter f (filter g xs))
filter_fails g f [] = omega arith
filter_fails {X} g f (x ∷ xs) = by_case (g x) (f x) refl refl (filter_fails g f xs) where
  by_case : (p q : Bool) → g x ≡ p → f x ≡ q → length (filter g xs) + length (filter f xs) ≤ length xs + length (filter f (filter g xs))
      → length (cond p (x ∷ filter g xs) (filter g xs)) + length (cond q (x ∷ filter f xs) (filter f xs)) ≤ length (x ∷ xs) + length (filter f (cond p (x ∷ filter g xs) (filter g xs)))
  by_case true true e h ih =
      let k : length (cond (f x) (x ∷ filter f (filter g xs)) (filter f (filter g xs))) ≡ suc (length (filter f (filter g xs))) = ap (λ c. length (cond c (x ∷ filter f (filter g xs)) (filter f (filter g xs)))) h in
      omega (arith, ih, k)
  by_case true false e h ih =
      let k : length (cond (f x) (x ∷ filter f (filter g xs)) (filter f (filter g xs))) ≡ length (filter f (filter g xs)) = ap (λ c. length (cond c (x ∷ filter f (filter g xs)) (filter f (filter g xs)))) h in
      omega (arith, ih, k)
  by_case false true e h ih = omega (arith, ih)
  by_case false false e h ih = omega (arith, ih)

pub filter_less : {X : Type 0} (f : X → Bool) (xs : List X) → length (filter f xs) ≤ length xs
filter_less f [] = omega arith
filter_less {X} f (x ∷ xs) = by_case (f x) (filter_less f xs) where
  by_case : (b : Bool) → length (filter f xs) ≤ length xs → length (cond b (x ∷ filter f xs) (filter f xs)) ≤ length (x ∷ xs)
  by_case true ih = omega (arith, ih)
  by_case false ih = omega (arith, ih)

-- none fails where as many pass as there are
pub filter_whole : {X : Type 0} (f : X → Bool) (xs : List X) → length xs ≤ length (filter f xs) → filter f xs ≡ xs
filter_whole f [] h = refl
filter_whole {X} f (x ∷ xs) h = by_case (f x) h (filter_whole f xs) where
  by_case : (b : Bool) → length (x ∷ xs) ≤ length (cond b (x ∷ filter f xs) (filter f xs)) → (length xs ≤ length (filter f xs) → filter f xs ≡ xs) → cond b (x ∷ filter f xs) (filter f xs) ≡ x ∷ xs
  by_case true k ih = ap (λ zs. x ∷ zs) (ih (omega (arith, k)))
  by_case false k ih = absurd (let less = filter_less f xs in omega (arith, k, less))
