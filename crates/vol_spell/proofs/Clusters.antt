-- In which run of a list a cluster is.
use Rattle.std.proofs.Common.{◌≡◌, ◌<◌, ◌≤◌, ◌+◌, ◌*◌, ◌/◌, ◌%◌, ℕ, zero, suc, Bool, true, false, List, [], ◌∷◌, Some, None, slice_get, refl, ap, ◌∙◌, inl, inr, arith, mul-le-mul_left}
use Rattle.std.specs.Prelude.{◌↔◌, nat_lt}
use Rattle.std.specs.List.{range_with_len}
use Rattle.std.proofs.lemmas.Bool.{and_parts, lt-ltb, ltb-true}
use Rattle.std.proofs.lemmas.Bool.Decides.{nat_tests}
use Rattle.fx_header.specs.declared.run.Run.{Run}
use Rattle.base_words.specs.Lists.{Has, Once}
use Rattle.base_words.proofs.Listing.{has_parted, has_first, has_second, once_in_a_row}
use Rattle.vol_spell.proofs.Placing.{has_ranged, ranged_has}
use Rattle.vol_parts.specs.declared.geometry.Geometry.{Geometry}
use Rattle.vol_parts.specs.Volumes.{is_in_run}
use Rattle.vol_spell.specs.Reading.{clusters_of, total_of}
use Rattle.vol_spell.specs.Spelling.{IsWhole, AreWhole}

pub whole : (x f : ℕ) → 1 ≤ f → x % f ≡ 0 → x ≡ x / f * f
whole x f low e = omega arith

inside : (f a k q x y : ℕ) → x ≡ a * f → y ≡ k * f → 1 ≤ f → a ≤ q → q < a + k → (x < f * (q + 1)) × (f * q < x + y)
inside f a k q x y e1 e2 low lo hi =
    let m1 : f * a ≤ f * q = mul-le-mul_left f lo in
    let m2 : f * (q + 1) ≤ f * (a + k) = mul-le-mul_left f (omega arith) in
    (omega arith, omega arith)

from_inside : (f a q x : ℕ) → x ≡ a * f → x < f * (q + 1) → a ≤ q
from_inside f a q x e lt = by_test (nat_lt q a) refl where
  by_test : (b : Bool) → nat_lt q a ≡ b → a ≤ q
  by_test true t = let h : q + 1 ≤ a = (let l = ltb-true q a t in omega arith) in let m : f * (q + 1) ≤ f * a = mul-le-mul_left f h in absurd (omega arith)
  by_test false t = grind (arith, nat_tests)

to_inside : (f a k q x y : ℕ) → x ≡ a * f → y ≡ k * f → f * q < x + y → q < a + k
to_inside f a k q x y e1 e2 lt = by_test (nat_lt q (a + k)) refl where
  by_test : (b : Bool) → nat_lt q (a + k) ≡ b → q < a + k
  by_test true t = ltb-true q (a + k) t
  by_test false t = let h : a + k ≤ q = grind (arith, nat_tests) in let m : f * (a + k) ≤ f * q = mul-le-mul_left f h in absurd (omega arith)

-- a run that begins and ends at a cluster's bounds has a block of a cluster exactly where that is one of its clusters
pub run_has : (g : Geometry) (r : Run) (q : ℕ) → 1 ≤ g.cluster → IsWhole g r → Has (range_with_len (r.lbn / g.cluster) (r.count / g.cluster)) q ↔ (is_in_run g.cluster q r ≡ true)
unfolding is_in_run
run_has g r q low w =
    let f = g.cluster in
    let e1 : r.lbn ≡ r.lbn / f * f = whole r.lbn g.cluster low w.begins in
    let e2 : r.count ≡ r.count / f * f = whole r.count g.cluster low w.ends in (
      (λ t.
          let h = has_ranged (r.lbn / f) (r.count / f) q t in
          let i = inside f (r.lbn / f) (r.count / f) q r.lbn r.count e1 e2 low h.0 h.1 in
          rw (lt-ltb r.lbn (f * (q + 1)) i.0, lt-ltb (f * q) (r.lbn + r.count) i.1) refl),
      (λ e.
          let p = and_parts (nat_lt r.lbn (f * (q + 1))) (nat_lt (f * q) (r.lbn + r.count)) e in
          ranged_has (r.lbn / f) (r.count / f) q (from_inside f (r.lbn / f) q r.lbn e1 (ltb-true r.lbn (f * (q + 1)) p.0)) (to_inside f (r.lbn / f) (r.count / f) q r.lbn r.count e1 e2 (ltb-true (f * q) (r.lbn + r.count) p.1))),
    )

-- a cluster in a run, by the run's place
pub record IsInRunAt (f q : ℕ) (rs : List Run) : Type 0 where
  pub place : ℕ
  pub run : Run
  pub there : slice_get rs place ≡ Some run
  pub inside : is_in_run f q run ≡ true

pub run_of : (g : Geometry) (rs : List Run) (q : ℕ) → 1 ≤ g.cluster → AreWhole g rs → Has (clusters_of g.cluster rs) q → IsInRunAt g.cluster q rs
run_of g [] q low w t = absurd t
run_of g (r ∷ rs) q low w t = elim (has_parted (range_with_len (r.lbn / g.cluster) (r.count / g.cluster)) (clusters_of g.cluster rs) q t) [
  | inl a ↦ record { place = 0; run = r; there = refl; inside = (run_has g r q low w.0).0 a }
  | inr b ↦ let h = run_of g rs q low w.1 b in record { place = suc h.place; run = h.run; there = h.there; inside = h.inside }
]

pub of_run : (g : Geometry) (rs : List Run) (q i : ℕ) (r : Run) → 1 ≤ g.cluster → AreWhole g rs → slice_get rs i ≡ Some r → is_in_run g.cluster q r ≡ true → Has (clusters_of g.cluster rs) q
of_run g [] q i r low w e t = absurd (let f : None ≡ Some r = e in cc)
of_run g (x ∷ rs) q zero r low w e t =
    let same : x ≡ r = (let h : Some x ≡ Some r = e in cc) in
    has_first (range_with_len (x.lbn / g.cluster) (x.count / g.cluster)) (clusters_of g.cluster rs) q ((run_has g x q low w.0).1 (ap (is_in_run g.cluster q) same ∙ t))
of_run g (x ∷ rs) q (suc i) r low w e t = has_second (range_with_len (x.lbn / g.cluster) (x.count / g.cluster)) (clusters_of g.cluster rs) q (of_run g rs q i r low w.1 e t)

pub once_range : (a k : ℕ) → Once (range_with_len a k)
once_range a zero = tt
once_range a (suc k) = ((λ t. let h = (has_ranged (a + 1) k a t).0 in absurd (omega arith)), once_range (a + 1) k)

-- clusters that are in one run alone are listed once
pub clusters_once : (g : Geometry) (rs : List Run) → 1 ≤ g.cluster → AreWhole g rs
    → ((q i j : ℕ) (r s : Run) → slice_get rs i ≡ Some r → slice_get rs j ≡ Some s → is_in_run g.cluster q r ≡ true → is_in_run g.cluster q s ≡ true → i ≡ j) → Once (clusters_of g.cluster rs)
clusters_once g [] low w one = tt
clusters_once g (r ∷ rs) low w one = once_in_a_row (range_with_len (r.lbn / g.cluster) (r.count / g.cluster)) (clusters_of g.cluster rs) (once_range (r.lbn / g.cluster) (r.count / g.cluster))
    (clusters_once g rs low w.1 (λ q i j x y a b t u. let h = one q (suc i) (suc j) x y a b t u in omega arith))
    (λ q t u. let h = run_of g rs q low w.1 u in let e : 0 ≡ suc h.place = one q 0 (suc h.place) r h.run refl h.there ((run_has g r q low w.0).0 t) h.inside in absurd (omega arith))

-- the clusters of a run inside the whole clusters are some of these
pub within_total : (g : Geometry) (r : Run) (q : ℕ) → IsWhole g r → is_in_run g.cluster q r ≡ true → q < total_of g
unfolding is_in_run
within_total g r q w e =
    let p = (and_parts (nat_lt r.lbn (g.cluster * (q + 1))) (nat_lt (g.cluster * q) (r.lbn + r.count)) e).1 in
    let lt : g.cluster * q < r.lbn + r.count = ltb-true (g.cluster * q) (r.lbn + r.count) p in
    let h = w.inside in
    by_test (nat_lt q (total_of g)) refl (let z : g.cluster * q < g.cluster * total_of g = omega arith in z) where
      by_test : (b : Bool) → nat_lt q (total_of g) ≡ b → g.cluster * q < g.cluster * total_of g → q < total_of g
      by_test true t lt = ltb-true q (total_of g) t
      by_test false t lt = let h : total_of g ≤ q = grind (arith, nat_tests) in let m : g.cluster * total_of g ≤ g.cluster * q = mul-le-mul_left g.cluster h in absurd (omega arith)
