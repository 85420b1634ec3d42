-- Entries of which each is before the next are in order.
use Rattle.std.proofs.Common.{◌≡◌, ◌∙◌, ◌&&◌, Bool, true, false, ℕ, List, [], ◌∷◌, drop, refl, sym, ap, arith, ltb, eqb}
use Rattle.std.proofs.lemmas.Bool.Decides.{nat_tests}
use Rattle.std.proofs.lemmas.Cmp.{same_from_slice_cmp}
use Rattle.std.specs.Cmp.Lexicographic.{slice_cmp}
use Rattle.std.specs.Ordering.{nat_cmp, ordering_then, is_lt, is_eq, MatchOrdering}
use Rattle.std.specs.declared.cmp.Ordering.{Ordering}
use Rattle.std.specs.declared.cmp.Ordering.TheVariants.{Less, Equal, Greater}
use Rattle.std.specs.List.{list_all, zip}
use Rattle.std.specs.Str.{bytes_eq}
use Rattle.fx_dir.specs.declared.RawEnt.{RawEnt}
use Rattle.fx_dir.specs.Entries.{lower, same, before, rises}
use Rattle.fx_dir.proofs.Order.{and_cases, both, no_and, before-trans}

-- what `cmp` answers of bytes
pub cmp-lower : (xs ys : List ℕ) (r : Ordering) → r ≡ slice_cmp nat_cmp xs ys → is_lt r ≡ lower xs ys
cmp-lower = same_from_slice_cmp nat_cmp is_lt lower refl (λ _ _. refl) (λ _ _. refl) more where
  more : (x y : ℕ) (xs ys : List ℕ) (o : Ordering) → o ≡ nat_cmp x y → MatchOrdering o (lower (x ∷ xs) (y ∷ ys) ≡ is_lt Less) (lower (x ∷ xs) (y ∷ ys) ≡ lower xs ys) (lower (x ∷ xs) (y ∷ ys) ≡ is_lt Greater)
  more x y xs ys Less e = grind (arith, nat_tests)
  more x y xs ys Equal e = grind (arith, nat_tests)
  more x y xs ys Greater e = grind (arith, nat_tests)

pub cmp-equal : (xs ys : List ℕ) (r : Ordering) → r ≡ slice_cmp nat_cmp xs ys → is_eq r ≡ bytes_eq xs ys
cmp-equal = same_from_slice_cmp nat_cmp is_eq bytes_eq refl (λ _ _. refl) (λ _ _. refl) more where
  more : (x y : ℕ) (xs ys : List ℕ) (o : Ordering) → o ≡ nat_cmp x y → MatchOrdering o (bytes_eq (x ∷ xs) (y ∷ ys) ≡ is_eq Less) (bytes_eq (x ∷ xs) (y ∷ ys) ≡ bytes_eq xs ys) (bytes_eq (x ∷ xs) (y ∷ ys) ≡ is_eq Greater)
  more x y xs ys Less e = grind (arith, nat_tests)
  more x y xs ys Equal e = grind (arith, nat_tests)
  more x y xs ys Greater e = grind (arith, nat_tests)

-- the order by name, and of one name by falling version
pub order-before : (n v : Ordering) (a b : RawEnt) → is_lt n ≡ lower a.name b.name → is_eq n ≡ bytes_eq a.name b.name → v ≡ nat_cmp b.ver a.ver → is_lt (ordering_then n v) ≡ before a b
unfolding before
order-before Less v a b l e h = rw (sym l) refl
order-before Equal v a b l e h = rw (sym l, sym e) (ap is_lt h ∙ less b.ver a.ver) where
  less : (x y : ℕ) → is_lt (nat_cmp x y) ≡ ltb x y
  less x y = grind (arith, nat_tests)
order-before Greater v a b l e h = rw (sym l, sym e) refl

pub order-same : (n v : Ordering) (a b : RawEnt) → is_eq n ≡ bytes_eq a.name b.name → v ≡ nat_cmp b.ver a.ver → is_eq (ordering_then n v) ≡ same a b
unfolding same
order-same Less v a b e h = rw (sym e) refl
order-same Equal v a b e h = rw (sym e) (ap is_eq h ∙ equal b.ver a.ver) where
  equal : (x y : ℕ) → is_eq (nat_cmp x y) ≡ eqb y x
  equal x y = grind (arith, nat_tests)
order-same Greater v a b e h = rw (sym e) refl

pub all-trans : (e x : RawEnt) (es : List RawEnt) → before e x ≡ true → list_all (before x) es ≡ true → list_all (before e) es ≡ true
all-trans e x [] h a = refl
all-trans e x (y ∷ es) h a = let p = and_cases _ _ a in both _ _ (before-trans e x y h p.0) (all-trans e x es h p.1)

-- a test of each and the next tests the whole
pub neighbours : (es : List RawEnt) → list_all (λ p. before p.0 p.1) (zip es (drop 1 es)) ≡ rises es
neighbours [] = refl
neighbours (e ∷ []) = refl
neighbours (e ∷ f ∷ es) = step (before e f) refl (neighbours (f ∷ es)) where
  step : (q : Bool) → q ≡ before e f → list_all (λ p. before p.0 p.1) (zip (f ∷ es) es) ≡ rises (f ∷ es)
      → (q && list_all (λ p. before p.0 p.1) (zip (f ∷ es) es)) ≡ ((q && list_all (before e) es) && rises (f ∷ es))
  step false h ih = refl
  step true h ih = ih ∙ rest (rises (f ∷ es)) refl where
    rest : (r : Bool) → r ≡ rises (f ∷ es) → r ≡ (list_all (before e) es && r)
    rest true k = rw (all-trans e f es (sym h) (and_cases _ _ (sym k)).0) refl
    rest false k = sym (no_and (list_all (before e) es) false refl)
