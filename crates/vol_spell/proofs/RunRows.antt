-- Runs in a row, and runs that touch: they are whole, and have the same clusters as one.
use Rattle.std.proofs.Common.{◌≡◌, ◌≤◌, ◌+◌, ◌*◌, ◌/◌, ◌%◌, ◌++◌, ℕ, Bool, true, false, List, [], ◌∷◌, refl, sym, ap, ◌∙◌, arith, cond, append_assoc}
use Rattle.std.specs.Prelude.{◌==◌}
use Rattle.std.specs.List.{range_with_len}
use Rattle.std.proofs.Math.Nat.{mul-mod_left, mul-div_cancel}
use Rattle.std.proofs.lemmas.Bool.Decides.{nat_tests}
use Rattle.fx_header.specs.declared.run.Run.{Run}
use Rattle.fx_header.specs.Pointers.{joined}
use Rattle.vol_parts.specs.declared.geometry.Geometry.{Geometry}
use Rattle.vol_spell.specs.Reading.{clusters_of}
use Rattle.vol_spell.specs.Spelling.{IsWhole, AreWhole}
use Rattle.vol_spell.proofs.RowLists.{range_joined}
use Rattle.vol_spell.proofs.Runs.{whole}

-- ---- runs in a row

pub whole_front : (g : Geometry) (rs ss : List Run) → AreWhole g (rs ++ ss) → AreWhole g rs
whole_front g [] ss h = tt
whole_front g (r ∷ rs) ss h = (h.0, whole_front g rs ss h.1)

pub whole_back : (g : Geometry) (rs ss : List Run) → AreWhole g (rs ++ ss) → AreWhole g ss
whole_back g [] ss h = h
whole_back g (r ∷ rs) ss h = whole_back g rs ss h.1

pub whole_both : (g : Geometry) (rs ss : List Run) → AreWhole g rs → AreWhole g ss → AreWhole g (rs ++ ss)
whole_both g [] ss a b = b
whole_both g (r ∷ rs) ss a b = (a.0, whole_both g rs ss a.1 b)

-- ---- sums of whole clusters

sum_whole : (x y f : ℕ) → 1 ≤ f → x % f ≡ 0 → y % f ≡ 0 → x + y ≡ (x / f + y / f) * f
sum_whole x y f low a b =
    let p : x ≡ x / f * f = whole x f low a in
    let q : y ≡ y / f * f = whole y f low b in
    let r : x / f * f + y / f * f ≡ (x / f + y / f) * f = omega arith in
    omega arith

sum_mod : (x y f : ℕ) → 1 ≤ f → x % f ≡ 0 → y % f ≡ 0 → (x + y) % f ≡ 0
sum_mod x y f low a b = ap (λ z. z % f) (sum_whole x y f low a b) ∙ mul-mod_left (x / f + y / f) f

sum_div : (x y f : ℕ) → 1 ≤ f → x % f ≡ 0 → y % f ≡ 0 → (x + y) / f ≡ x / f + y / f
sum_div x y f low a b = ap (λ z. z / f) (sum_whole x y f low a b) ∙ mul-div_cancel (x / f + y / f) low

-- ---- runs that touch

module _ (g : Geometry) (low : 1 ≤ g.cluster) where
  pub whole_joined : (r : Run) (rs : List Run) → IsWhole g r → AreWhole g rs → AreWhole g (joined r rs)
  whole_joined r [] h k = (h, tt)
  whole_joined r (s ∷ rs) h k = by_test (r.lbn + r.count == s.lbn) refl where
    one : Run
    one = record { lbn = r.lbn; count = r.count + s.count }

    by_test : (t : Bool) → (r.lbn + r.count == s.lbn) ≡ t → AreWhole g (cond t (one ∷ rs) (r ∷ s ∷ rs))
    by_test false e = (h, k)
    by_test true e =
        let touch : r.lbn + r.count ≡ s.lbn = grind (arith, nat_tests) in
        let inside = k.0.inside in
        (record { begins = h.begins; ends = sum_mod r.count s.count g.cluster low h.ends k.0.ends; inside = omega arith }, k.1)

  pub clusters_joined : (r : Run) (rs : List Run) → IsWhole g r → AreWhole g rs
      → clusters_of g.cluster (joined r rs) ≡ range_with_len (r.lbn / g.cluster) (r.count / g.cluster) ++ clusters_of g.cluster rs
  clusters_joined r [] h k = refl
  clusters_joined r (s ∷ rs) h k = by_test (r.lbn + r.count == s.lbn) refl where
    one : Run
    one = record { lbn = r.lbn; count = r.count + s.count }

    by_test : (t : Bool) → (r.lbn + r.count == s.lbn) ≡ t
        → clusters_of g.cluster (cond t (one ∷ rs) (r ∷ s ∷ rs)) ≡ range_with_len (r.lbn / g.cluster) (r.count / g.cluster) ++ (range_with_len (s.lbn / g.cluster) (s.count / g.cluster) ++ clusters_of g.cluster rs)
    by_test false e = refl
    by_test true e =
        let touch : r.lbn + r.count ≡ s.lbn = grind (arith, nat_tests) in
        let next : r.lbn / g.cluster + r.count / g.cluster ≡ s.lbn / g.cluster = sym (sum_div r.lbn r.count g.cluster low h.begins h.ends) ∙ ap (λ z. z / g.cluster) touch in
        let here : range_with_len (r.lbn / g.cluster) ((r.count + s.count) / g.cluster) ≡ range_with_len (r.lbn / g.cluster) (r.count / g.cluster) ++ range_with_len (s.lbn / g.cluster) (s.count / g.cluster) =
        ap (λ z. range_with_len (r.lbn / g.cluster) z) (sum_div r.count s.count g.cluster low h.ends k.0.ends)
        ∙ range_joined (r.lbn / g.cluster) (r.count / g.cluster) (s.count / g.cluster)
        ∙ ap (λ z. range_with_len (r.lbn / g.cluster) (r.count / g.cluster) ++ range_with_len z (s.count / g.cluster)) next in
        ap (λ xs. xs ++ clusters_of g.cluster rs) here
        ∙ append_assoc (range_with_len (r.lbn / g.cluster) (r.count / g.cluster)) (range_with_len (s.lbn / g.cluster) (s.count / g.cluster)) (clusters_of g.cluster rs)
