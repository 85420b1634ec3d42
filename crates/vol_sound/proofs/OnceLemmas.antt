-- Clusters that are counted once.
use Rattle.std.proofs.Common.{◌≡◌, ◌∙◌, ◌+◌, ◌<◌, ◌≤◌, ◌≢◌, ℕ, zero, suc, Bool, true, false, List, [], ◌∷◌, min, refl, sym, ap, arith, ⊎_elim}
use Rattle.std.specs.Prelude.{◌==◌, ◌&&◌, ◌||◌, not, nat_le, nat_lt, slice_index}
use Rattle.std.specs.List.{list_all, list_any, range_with_len}
use Rattle.std.proofs.lemmas.Bool.{cases_lt, eq-eqb, ne_eqb, le-leb, lt-ltb, leb-true, ltb-true, and_parts}
use Rattle.fx_header.specs.declared.run.Run.{Run}
use Rattle.vol_parts.specs.Volumes.{Volume, factor, total, runs, is_in_run, is_in_file}
use Rattle.vol_sound.specs.Clusters.{AreTimes, AreOfRun, are_once}
use Rattle.vol_sound.specs.Sound.{times_cut, is_unshared, shares_none}

-- ---- tests of each number in a range

pub all-range : (p : ℕ → Bool) (a k : ℕ) → ((q : ℕ) → a ≤ q → q < a + k → p q ≡ true) → list_all p (range_with_len a k) ≡ true
all-range p a zero each = refl
all-range p a (suc k) each =
    let rest = all-range p (a + 1) k (λ q from to. each q (omega arith) (omega arith)) in
    rw (each a (omega arith) (omega arith)) rest

pub some-range : (p : ℕ → Bool) (a k q : ℕ) → a ≤ q → q < a + k → p q ≡ false → list_all p (range_with_len a k) ≡ false
some-range p a zero q from to e = absurd (omega arith)
some-range p a (suc k) q from to e =
    ⊎_elim (λ (h : a < q). rw (some-range p (a + 1) k q (omega arith) (omega arith) e) (none (p a)))
    (λ (h : q ≤ a).
    let same : a ≡ q = omega arith in
    let here : p a ≡ false = ap p same ∙ e in
    rw here refl)
    (cases_lt a q)
  where
    none : (t : Bool) → (t && false) ≡ false
    none true = refl
    none false = refl

pub same-range : (p r : ℕ → Bool) (a k : ℕ) → ((q : ℕ) → a ≤ q → q < a + k → p q ≡ r q) → list_all p (range_with_len a k) ≡ list_all r (range_with_len a k)
same-range p r a zero each = refl
same-range p r a (suc k) each =
    let rest = same-range p r (a + 1) k (λ q from to. each q (omega arith) (omega arith)) in
    rw (each a (omega arith) (omega arith), rest) refl

all-both : (p r : ℕ → Bool) (xs : List ℕ) → list_all (λ q. p q && r q) xs ≡ (list_all p xs && list_all r xs)
all-both p r [] = refl
all-both p r (x ∷ xs) = ap (λ (t : Bool). (p x && r x) && t) (all-both p r xs) ∙ shuffle (p x) (r x) (list_all p xs) (list_all r xs) where
  shuffle : (a b c d : Bool) → ((a && b) && (c && d)) ≡ ((a && c) && (b && d))
  shuffle true true c d = refl
  shuffle true false true d = refl
  shuffle true false false d = refl
  shuffle false b c d = refl

-- ---- one run more

split : (a b o : Bool) → (not (a || b) || o) ≡ ((not a || o) && (not b || o))
split true true true = refl
split true true false = refl
split true false true = refl
split true false false = refl
split false true o = refl
split false false o = refl

abbrev once : Volume → List ℕ → Run → ℕ → Bool
once v counts r q = not (is_in_run (factor v) q r) || (slice_index counts q == 1)

by_run : (v : Volume) (counts : List ℕ) (r : Run) (rs : List Run)
    → are_once v counts (r ∷ rs) ≡ (list_all (once v counts r) (range_with_len 0 (total v)) && are_once v counts rs)
unfolding are_once
by_run v counts r rs =
    same-range (λ q. not (list_any (is_in_run (factor v) q) (r ∷ rs)) || (slice_index counts q == 1))
    (λ q. once v counts r q && (not (list_any (is_in_run (factor v) q) rs) || (slice_index counts q == 1))) 0 (total v)
    (λ q from to. split (is_in_run (factor v) q r) (list_any (is_in_run (factor v) q) rs) (slice_index counts q == 1))
    ∙ all-both (once v counts r) (λ q. not (list_any (is_in_run (factor v) q) rs) || (slice_index counts q == 1)) (range_with_len 0 (total v))

-- a run whose clusters are all counted once
pub run-once : (v : Volume) (counts : List ℕ) (r : Run) (rs : List Run) (from to : ℕ) → AreOfRun v r from to
    → ((q : ℕ) → from ≤ q → q < to → slice_index counts q ≡ 1) → are_once v counts (r ∷ rs) ≡ are_once v counts rs
run-once v counts r rs from to are each =
    by_run v counts r rs ∙ ap (λ (t : Bool). t && are_once v counts rs) (all-range (once v counts r) 0 (total v) (λ q low high. passes q (omega arith))) where
      passes : (q : ℕ) → q < total v → once v counts r q ≡ true
      passes q inside = by_test (is_in_run (factor v) q r) refl where
        by_test : (t : Bool) → is_in_run (factor v) q r ≡ t → (not t || (slice_index counts q == 1)) ≡ true
        by_test false e = refl
        by_test true e =
            let parts = and_parts (nat_le from q) (nat_lt q to) (sym (are.within q inside) ∙ e) in
            eq-eqb (slice_index counts q) 1 (each q (leb-true from q parts.0) (ltb-true q to parts.1))

-- and one with a cluster that is not
pub run-not-once : (v : Volume) (counts : List ℕ) (r : Run) (rs : List Run) (from to q : ℕ) → AreOfRun v r from to
    → from ≤ q → q < to → slice_index counts q ≢ 1 → are_once v counts (r ∷ rs) ≡ false
run-not-once v counts r rs from to q are low high ne =
    let ends = are.inside in
    let inside : q < total v = omega arith in
    let there : is_in_run (factor v) q r ≡ true = are.within q inside ∙ rw (le-leb from q low, lt-ltb q to high) refl in
    let fails : once v counts r q ≡ false = rw (there, ne_eqb (slice_index counts q) 1 ne) refl in
    by_run v counts r rs ∙ ap (λ (t : Bool). t && are_once v counts rs) (some-range (once v counts r) 0 (total v) q (omega arith) (omega arith) fails)

pub none-once : (v : Volume) (counts : List ℕ) → are_once v counts [] ≡ true
unfolding are_once
none-once v counts = all-range (λ q. not (list_any (is_in_run (factor v) q) []) || (slice_index counts q == 1)) 0 (total v) (λ q from to. refl)

-- ---- the runs of a file

capped : (t : ℕ) → (min 2 t == 1) ≡ (t == 1)
capped zero = refl
capped (suc zero) = refl
capped (suc (suc t)) = let e : min 2 (suc (suc t)) ≡ 2 = omega arith in rw (e, ne_eqb (suc (suc t)) 1 (λ x. omega arith)) refl

-- where the counts are those of cuts, each cluster of a file is counted once exactly where the file shares none
pub once-unshared : (v : Volume) (counts : List ℕ) (n : ℕ) → AreTimes v (times_cut v) counts → are_once v counts (runs v n) ≡ shares_none v n
unfolding are_once shares_none is_unshared
once-unshared v counts n are =
    same-range (λ q. not (is_in_file v q n) || (slice_index counts q == 1)) (λ q. not (is_in_file v q n) || (times_cut v q == 1)) 0 (total v)
    (λ q from to. ap (λ (t : Bool). not (is_in_file v q n) || t) (ap (λ (k : ℕ). k == 1) (are.each q (omega arith)) ∙ capped (times_cut v q)))
