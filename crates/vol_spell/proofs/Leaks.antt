-- What is leaked stays where nothing that is leaked moves.
use Rattle.std.proofs.Common.{◌≡◌, ◌≢◌, ◌+◌, ℕ, suc, Bool, false, List, [], ◌∷◌, Option, Some, None, length, map, slice_get, refl, sym, ap, subst, ◌∙◌, inl, inr, arith, cond}
use Rattle.std.specs.Prelude.{count_by}
use Rattle.std.proofs.lemmas.List.Sums.{sum_by-cons}
use Rattle.vol_spell.specs.declared.owner.Owner.{Owner}
use Rattle.vol_spell.specs.declared.owner.Owner.TheVariants.{Free, InFile, Outside, Leaked}
use Rattle.vol_spell.specs.Owners.{Moves}
use Rattle.vol_spell.specs.Counts.{is_same_owner}

abbrev flag_of : Option Owner → Bool
flag_of None = false
flag_of (Some o) = is_same_owner Leaked o

flags_same : (xs ys : List Owner) → length ys ≡ length xs → ((q : ℕ) → flag_of (slice_get ys q) ≡ flag_of (slice_get xs q)) → map (is_same_owner Leaked) ys ≡ map (is_same_owner Leaked) xs
flags_same [] [] e h = refl
flags_same [] (y ∷ ys) e h = absurd (omega arith)
flags_same (x ∷ xs) [] e h = absurd (omega arith)
flags_same (x ∷ xs) (y ∷ ys) e h =
    let first : is_same_owner Leaked y ≡ is_same_owner Leaked x = h 0 in
    let rest : map (is_same_owner Leaked) ys ≡ map (is_same_owner Leaked) xs = flags_same xs ys (omega arith) (λ q. h (suc q)) in
    λ i. first i ∷ rest i

count_same : (xs ys : List Owner) → length ys ≡ length xs → ((q : ℕ) → flag_of (slice_get ys q) ≡ flag_of (slice_get xs q)) → count_by (is_same_owner Leaked) ys ≡ count_by (is_same_owner Leaked) xs
count_same [] [] e h = refl
count_same [] (y ∷ ys) e h = absurd (omega arith)
count_same (x ∷ xs) [] e h = absurd (omega arith)
count_same (x ∷ xs) (y ∷ ys) e h =
    let first : is_same_owner Leaked y ≡ is_same_owner Leaked x = h 0 in
    let f : Owner → ℕ = λ o. cond (is_same_owner Leaked o) 1 0 in
    let rest : count_by (is_same_owner Leaked) ys ≡ count_by (is_same_owner Leaked) xs = count_same xs ys (omega arith) (λ q. h (suc q)) in
    let e : cond (is_same_owner Leaked y) 1 0 + count_by (is_same_owner Leaked) ys ≡ cond (is_same_owner Leaked x) 1 0 + count_by (is_same_owner Leaked) xs = rw (first, rest) refl in
    sum_by-cons f y ys ∙ e ∙ sym (sum_by-cons f x xs)

plain : (o : Option Owner) → o ≢ Some Leaked → flag_of o ≡ false
unfolding is_same_owner
plain None ne = refl
plain (Some Free) ne = refl
plain (Some (InFile i)) ne = refl
plain (Some (Outside n)) ne = refl
plain (Some Leaked) ne = absurd (ne refl)

flag_stays : (P : Option Owner → Type 0) (xs ys : List Owner) → (P (Some Leaked) → ⊥) → Moves P xs ys → (q : ℕ) → flag_of (slice_get ys q) ≡ flag_of (slice_get xs q)
flag_stays P xs ys never moves q = elim (moves.each q) [
  | inl e ↦ ap flag_of e
  | inr m ↦ plain (slice_get ys q) (λ e. never (subst P e m.1)) ∙ sym (plain (slice_get xs q) (λ e. never (subst P e m.0)))
]

pub leaks_stay : (P : Option Owner → Type 0) (xs ys : List Owner) → (P (Some Leaked) → ⊥) → Moves P xs ys → count_by (is_same_owner Leaked) ys ≡ count_by (is_same_owner Leaked) xs
leaks_stay P xs ys never moves = count_same xs ys moves.count (flag_stays P xs ys never moves)

pub leak_flags_stay : (P : Option Owner → Type 0) (xs ys : List Owner) → (P (Some Leaked) → ⊥) → Moves P xs ys → map (is_same_owner Leaked) ys ≡ map (is_same_owner Leaked) xs
leak_flags_stay P xs ys never moves = flags_same xs ys moves.count (flag_stays P xs ys never moves)
