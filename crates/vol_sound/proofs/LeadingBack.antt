-- Entries that lead back are found by way of each number once.
use Rattle.std.proofs.Common.{◌≡◌, ℕ, true, List, [], ◌∷◌, length, sym, subst, inl, inr, arith}
use Rattle.std.specs.Prelude.{◌&&◌}
use Rattle.std.specs.List.{range_with_len}
use Rattle.std.proofs.lemmas.Bool.{and_parts, and_from, or_left, or_right, or_cases}
use Rattle.base_words.specs.Lists.{Has}
use Rattle.plain_cat.specs.declared.cat.Cat.{Cat}
use Rattle.vol_parts.specs.Fatal.{Path}
use Rattle.vol_parts.specs.Fatal.Path.{One, More}
use Rattle.vol_faults.specs.Reaching.{leads}
use Rattle.vol_faults.proofs.ReachLemmas.{leads-names, names-leads, path-number}
use Rattle.vol_faults.proofs.WayLemmas.{path-on}
use Rattle.vol_sound.specs.Leading.{leads_by, leads_back, LoopsAreFound}
use Rattle.vol_sound.proofs.Cuts.{range_in}

-- what leads by way of numbers leads
by_path : (c : Cat) (xs : List ℕ) (n m : ℕ) → leads_by c xs n m ≡ true → Path c n m
unfolding leads_by
by_path c [] n m e = One (leads-names c n m e)
by_path c (x ∷ xs) n m e = elim (or_cases (leads_by c xs n m) (leads_by c xs n x && leads_by c xs x m) e) [
  | inl here ↦ by_path c xs n m here
  | inr way ↦ (let p = and_parts (leads_by c xs n x) (leads_by c xs x m) way in path-on c n x m (by_path c xs n x p.0) (by_path c xs x m p.1))
]

-- what leads at once does so by way of any numbers
at_once : (c : Cat) (xs : List ℕ) (n m : ℕ) → leads c n m ≡ true → leads_by c xs n m ≡ true
unfolding leads_by
at_once c [] n m e = e
at_once c (x ∷ xs) n m e = or_left (leads_by c xs n m) _ (at_once c xs n m e)

-- how a chain by way of the first of these and of the others goes
data Goes (c : Cat) (x : ℕ) (xs : List ℕ) (n m : ℕ) : Type 0 where
  Beside : leads_by c xs n m ≡ true → Goes c x xs n m
  Through : leads_by c xs n x ≡ true → leads_by c xs x m ≡ true → Goes c x xs n m

goes : (c : Cat) (x : ℕ) (xs : List ℕ) (n m : ℕ) → leads_by c (x ∷ xs) n m ≡ true → Goes c x xs n m
unfolding leads_by
goes c x xs n m e = elim (or_cases (leads_by c xs n m) (leads_by c xs n x && leads_by c xs x m) e) [
  | inl here ↦ Beside here
  | inr way ↦ (let p = and_parts (leads_by c xs n x) (leads_by c xs x m) way in Through p.0 p.1)
]

beside : (c : Cat) (x : ℕ) (xs : List ℕ) (n m : ℕ) → leads_by c xs n m ≡ true → leads_by c (x ∷ xs) n m ≡ true
unfolding leads_by
beside c x xs n m e = or_left (leads_by c xs n m) _ e

through : (c : Cat) (x : ℕ) (xs : List ℕ) (n m : ℕ) → leads_by c xs n x ≡ true → leads_by c xs x m ≡ true → leads_by c (x ∷ xs) n m ≡ true
unfolding leads_by
through c x xs n m a b = or_right (leads_by c xs n m) _ (and_from (leads_by c xs n x) (leads_by c xs x m) a b)

-- a chain to the first of these needs not to pass it before
up_to : (c : Cat) (x : ℕ) (xs : List ℕ) (n : ℕ) → leads_by c (x ∷ xs) n x ≡ true → leads_by c xs n x ≡ true
up_to c x xs n e = elim (goes c x xs n x e) [ Beside a ↦ a | Through a b ↦ a ]

on_from : (c : Cat) (x : ℕ) (xs : List ℕ) (m : ℕ) → leads_by c (x ∷ xs) x m ≡ true → leads_by c xs x m ≡ true
on_from c x xs m e = elim (goes c x xs x m e) [ Beside a ↦ a | Through a b ↦ b ]

-- chains to and from one of these numbers are a chain by way of them
joined : (c : Cat) (xs : List ℕ) (n k m : ℕ) → Has xs k → leads_by c xs n k ≡ true → leads_by c xs k m ≡ true → leads_by c xs n m ≡ true
joined c [] n k m t a b = absurd t
joined c (x ∷ xs) n k m (inl same) a b =
    through c x xs n m
    (up_to c x xs n (subst (λ (j : ℕ). leads_by c (x ∷ xs) n j ≡ true) (sym same) a))
    (on_from c x xs m (subst (λ (j : ℕ). leads_by c (x ∷ xs) j m ≡ true) (sym same) b))
joined c (x ∷ xs) n k m (inr t) a b = by_goes (goes c x xs n k a) (goes c x xs k m b) (λ i j u w. joined c xs i k j t u w) where
  by_goes : Goes c x xs n k → Goes c x xs k m → ((i j : ℕ) → leads_by c xs i k ≡ true → leads_by c xs k j ≡ true → leads_by c xs i j ≡ true) → leads_by c (x ∷ xs) n m ≡ true
  by_goes (Beside u) (Beside w) ih = beside c x xs n m (ih n m u w)
  by_goes (Beside u) (Through w z) ih = through c x xs n m (ih n x u w) z
  by_goes (Through u y) (Beside w) ih = through c x xs n m u (ih x m y w)
  by_goes (Through u y) (Through w z) ih = through c x xs n m u z

-- a chain is one by way of all numbers
path_by : (c : Cat) (n m : ℕ) → Path c n m → leads_by c (range_with_len 1 (length c.files)) n m ≡ true
path_by c n m (One h) = at_once c (range_with_len 1 (length c.files)) n m (names-leads c n m h)
path_by c n m (More {k} p h) =
    let number = path-number c n k p in
    let from = number.0 in
    let to = number.1 in
    joined c (range_with_len 1 (length c.files)) n k m (range_in 1 (length c.files) k from (omega arith)) (path_by c n k p) (at_once c (range_with_len 1 (length c.files)) k m (names-leads c k m h))

pub loops_are_found : LoopsAreFound
unfolding leads_back
loops_are_found c n = ((λ e. by_path c (range_with_len 1 (length c.files)) n n e), (λ p. path_by c n n p))
