-- Runs, their clusters and their blocks.
use Rattle.std.proofs.Common.{◌≡◌, ◌<◌, ◌≤◌, ◌+◌, ◌*◌, ◌/◌, ◌%◌, ℕ, zero, suc, List, [], ◌∷◌, ◌++◌, length, length-append, refl, sym, ap, subst, ◌∙◌, arith}
use Rattle.std.specs.List.{range_with_len}
use Rattle.std.proofs.lemmas.List.FromFn.{length-range_with_len}
use Rattle.std.proofs.lemmas.List.Sums.{sum_by-cons}
use Rattle.fx_header.specs.declared.run.Run.{Run}
use Rattle.fx_header.specs.Pointers.{blocks_in, lbns_in}
use Rattle.base_words.specs.Lists.{Has, Once}
use Rattle.vol_spell.specs.Spread.{spread}
use Rattle.vol_spell.proofs.Placing.{spread_joined, spread_in, spread_once, ranged_has}
use Rattle.base_words.proofs.Listing.{has_first}
use Rattle.vol_parts.specs.declared.geometry.Geometry.{Geometry}
use Rattle.vol_parts.specs.Volumes.{Told}
use Rattle.vol_spell.specs.Reading.{clusters_of, clusters_told}
use Rattle.vol_spell.specs.Spelling.{AreWhole}

range_joined : (a j k : ℕ) → range_with_len a (j + k) ≡ range_with_len a j ++ range_with_len (a + j) k
range_joined a zero k =
    let e : 0 + k ≡ k = omega arith in
    let f : a ≡ a + 0 = omega arith in
    ap (λ x. range_with_len a x) e ∙ ap (λ x. range_with_len x k) f
range_joined a (suc j) k =
    let e : suc j + k ≡ suc (j + k) = omega arith in
    let f : a + 1 + j ≡ a + suc j = omega arith in
    ap (λ x. range_with_len a x) e ∙ ap (λ xs. a ∷ xs) (range_joined (a + 1) j k ∙ ap (λ x. range_with_len (a + 1) j ++ range_with_len x k) f)

-- the blocks of clusters in a row
range_spread : (f q k : ℕ) → range_with_len (q * f) (k * f) ≡ spread f (range_with_len q k)
range_spread f q zero = let e : 0 * f ≡ 0 = omega arith in ap (λ x. range_with_len (q * f) x) e
range_spread f q (suc k) =
    let e : suc k * f ≡ f + k * f = omega arith in
    let h : q * f + f ≡ (q + 1) * f = omega arith in
    ap (λ x. range_with_len (q * f) x) e ∙ range_joined (q * f) f (k * f)
    ∙ ap (λ xs. range_with_len (q * f) f ++ xs) (ap (λ x. range_with_len x (k * f)) h ∙ range_spread f (q + 1) k)

pub whole : (x f : ℕ) → 1 ≤ f → x % f ≡ 0 → x ≡ x / f * f
whole x f low e = omega arith

-- the blocks of runs are those of their clusters
pub lbns_spread : (g : Geometry) (rs : List Run) → 1 ≤ g.cluster → AreWhole g rs → lbns_in rs ≡ spread g.cluster (clusters_of g.cluster rs)
lbns_spread g [] low w = refl
lbns_spread g (r ∷ rs) low w =
    let f = g.cluster in
    let a : r.lbn ≡ r.lbn / f * f = whole r.lbn g.cluster low w.0.begins in
    let b : r.count ≡ r.count / f * f = whole r.count g.cluster low w.0.ends in
    let here : range_with_len r.lbn r.count ≡ spread f (range_with_len (r.lbn / f) (r.count / f)) =
    ap (λ x. range_with_len x r.count) a ∙ ap (λ x. range_with_len (r.lbn / f * f) x) b ∙ range_spread f (r.lbn / f) (r.count / f) in
    ap (λ xs. xs ++ lbns_in rs) here ∙ ap (λ xs. spread f (range_with_len (r.lbn / f) (r.count / f)) ++ xs) (lbns_spread g rs low w.1)
    ∙ sym (spread_joined f (range_with_len (r.lbn / f) (r.count / f)) (clusters_of f rs))

adds_up : (k m f a b x y : ℕ) → x ≡ k * f → y ≡ m * f → a ≡ k + m → b ≡ x + y → a * f ≡ b
adds_up k m f a b x y e1 e2 e3 e4 = let h : (k + m) * f ≡ k * f + m * f = omega arith in ap (λ z. z * f) e3 ∙ h ∙ (let r : k * f + m * f ≡ b = omega arith in r)

-- whole clusters have so many blocks
pub size_of_runs : (g : Geometry) (rs : List Run) → 1 ≤ g.cluster → AreWhole g rs → length (clusters_of g.cluster rs) * g.cluster ≡ blocks_in rs
size_of_runs g [] low w = omega arith
size_of_runs g (r ∷ rs) low w =
    let f = g.cluster in
    let here = range_with_len (r.lbn / f) (r.count / f) in
    let len : length (here ++ clusters_of f rs) ≡ r.count / f + length (clusters_of f rs) = length-append here (clusters_of f rs) ∙ ap (λ k. k + length (clusters_of f rs)) (length-range_with_len (r.lbn / f) (r.count / f)) in
    adds_up (r.count / f) (length (clusters_of f rs)) f _ _ r.count (blocks_in rs) (whole r.count f low w.0.ends) (sym (size_of_runs g rs low w.1)) len (sum_by-cons (λ (x : Run). x.count) r rs)

-- a block of a file lies in one of its clusters
pub has_cluster : (g : Geometry) (t : Told) (l : ℕ) → 1 ≤ g.cluster → AreWhole g t.runs → Has (lbns_in t.runs) l → Has (clusters_told g t) (l / g.cluster)
has_cluster g t l low w has =
    let P : List ℕ → Type 0 = λ ls. Has ls l in
    spread_in g.cluster (clusters_told g t) l (subst P (lbns_spread g t.runs low w) has)

-- and is listed once
pub lbns_once : (g : Geometry) (t : Told) → 1 ≤ g.cluster → AreWhole g t.runs → Once (clusters_told g t) → Once (lbns_in t.runs)
lbns_once g t low w once =
    let P : List ℕ → Type 0 = λ ls. Once ls in
    subst P (sym (lbns_spread g t.runs low w)) (spread_once g.cluster (clusters_told g t) once)

-- a block of a single run
pub in_one_run : (r : Run) (l : ℕ) → r.lbn ≤ l → l < r.lbn + r.count → Has (lbns_in (r ∷ [])) l
in_one_run r l lo hi = has_first (range_with_len r.lbn r.count) [] l (ranged_has r.lbn r.count l lo hi)
