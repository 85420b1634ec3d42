-- The first clusters of runs: a cut at a bound of clusters has them.
use Rattle.std.proofs.Common.{◌≡◌, ◌∙◌, ◌+◌, ◌-◌, ◌*◌, ◌/◌, ◌<◌, ◌≤◌, ◌++◌, ℕ, zero, suc, List, [], ◌∷◌, take, length, refl, sym, ap, subst, inl, inr, arith, append-nil}
use Rattle.std.specs.List.{range_with_len}
use Rattle.std.proofs.Math.Nat.{mul-div_cancel_left, mul-mod_right, mul-sub, mul-le-mul_left}
use Rattle.std.proofs.lemmas.Bool.{cases_lt}
use Rattle.std.proofs.lemmas.Grind.{flat_map-append}
use Rattle.std.proofs.lemmas.List.{take-append-le, take_all}
use Rattle.std.proofs.lemmas.List.FromFn.{length-range_with_len}
use Rattle.fx_header.specs.declared.run.Run.{Run}
use Rattle.fx_header.specs.Pointers.{blocks_in}
use Rattle.vol_parts.specs.declared.geometry.Geometry.{Geometry}
use Rattle.vol_parts.specs.Chains.{cut, front_of}
use Rattle.vol_parts.proofs.Cuts.{cut-none, cut-nil, cut-within, cut-past, cut-counts}
use Rattle.vol_spell.specs.Reading.{clusters_of}
use Rattle.vol_spell.specs.Spelling.{IsWhole, AreWhole}
use Rattle.vol_spell.proofs.Runs.{whole, size_of_runs}

-- ---- runs in a row

pub clusters_both : (factor : ℕ) (rs ss : List Run) → clusters_of factor (rs ++ ss) ≡ clusters_of factor rs ++ clusters_of factor ss
clusters_both factor rs ss = flat_map-append (λ (r : Run). range_with_len (r.lbn / factor) (r.count / factor)) rs ss

-- so many blocks have so many clusters
pub whole_size : (g : Geometry) (rs : List Run) → 1 ≤ g.cluster → AreWhole g rs → blocks_in rs ≡ g.cluster * length (clusters_of g.cluster rs)
whole_size g rs low w =
    let all = size_of_runs g rs low w in
    let turn : length (clusters_of g.cluster rs) * g.cluster ≡ g.cluster * length (clusters_of g.cluster rs) = omega arith in
    sym all ∙ turn

-- ---- cuts

-- a cut of a longer cut
pub cut_again : (a b : ℕ) (rs : List Run) → a ≤ b → cut a (cut b rs) ≡ cut a rs
cut_again zero b rs le = cut-none (cut b rs) ∙ sym (cut-none rs)
cut_again (suc a) b [] le = ap (cut (suc a)) (cut-nil b)
cut_again (suc a) b (r ∷ rs) le =
    elim (cases_lt r.count b) [
      | inl past ↦
          let inner : cut b (r ∷ rs) ≡ r ∷ cut (b - r.count) rs = cut-past b r rs past in
          elim (cases_lt r.count (suc a)) [
            | inl more ↦
                ap (cut (suc a)) inner ∙ cut-past (suc a) r (cut (b - r.count) rs) more
                ∙ ap (λ xs. r ∷ xs) (cut_again (suc a - r.count) (b - r.count) rs (omega arith))
                ∙ sym (cut-past (suc a) r rs more)
            | inr within ↦ ap (cut (suc a)) inner ∙ cut-within (suc a) r (cut (b - r.count) rs) (omega arith) within ∙ sym (cut-within (suc a) r rs (omega arith) within)
          ]
      | inr inside ↦
          ap (cut (suc a)) (cut-within b r rs (omega arith) inside) ∙ cut-within (suc a) (front_of r b) [] (omega arith) le ∙ sym (cut-within (suc a) r rs (omega arith) (omega arith))
    ]

-- a cut has as many blocks as were asked for, if there are so many
pub cut_full : (k : ℕ) (rs : List Run) → k ≤ blocks_in rs → blocks_in (cut k rs) ≡ k
cut_full k rs le = let count = cut-counts k rs in omega arith

-- the first clusters
pub record HasFirst (g : Geometry) (k : ℕ) (rs ss : List Run) : Type 0 where
  pub whole : AreWhole g ss
  pub clusters : clusters_of g.cluster ss ≡ take k (clusters_of g.cluster rs)

range_take : (a n k : ℕ) → k ≤ n → take k (range_with_len a n) ≡ range_with_len a k
range_take a n zero h = refl
range_take a zero (suc k) h = absurd (omega arith)
range_take a (suc n) (suc k) h = ap (λ ns. a ∷ ns) (range_take (a + 1) n k (omega arith))

take_past : (xs ys : List ℕ) (k : ℕ) → length xs ≤ k → take k (xs ++ ys) ≡ xs ++ take (k - length xs) ys
take_past [] ys k h = let e : k - 0 ≡ k = omega arith in rw e refl
take_past (x ∷ xs) ys zero h = absurd (omega arith)
take_past (x ∷ xs) ys (suc k) h =
    let e : suc k - suc (length xs) ≡ k - length xs = omega arith in
    rw e (ap (λ ns. x ∷ ns) (take_past xs ys k (omega arith)))

module _ (g : Geometry) (low : 1 ≤ g.cluster) where
  none_first : (k : ℕ) (rs : List Run) → k ≡ 0 → HasFirst g k rs (cut (g.cluster * k) rs)
  none_first k rs none =
      let zero_blocks : g.cluster * k ≡ 0 = ap (λ z. g.cluster * z) none ∙ (let e : g.cluster * 0 ≡ 0 = omega arith in e) in
      let empty : cut (g.cluster * k) rs ≡ [] = ap (λ z. cut z rs) zero_blocks ∙ cut-none rs in
      record {
        whole = subst (AreWhole g) (sym empty) tt;
        clusters = ap (clusters_of g.cluster) empty ∙ sym (ap (λ z. take z (clusters_of g.cluster rs)) none);
      }

  -- the first run ends before the cut
  past_first : (k : ℕ) (r : Run) (rs : List Run) → IsWhole g r → r.count < g.cluster * k → HasFirst g (k - r.count / g.cluster) rs (cut (g.cluster * (k - r.count / g.cluster)) rs)
      → HasFirst g k (r ∷ rs) (cut (g.cluster * k) (r ∷ rs))
  past_first k r rs is past rest =
      let j = r.count / g.cluster in
      let here : r.count ≡ j * g.cluster = whole r.count g.cluster low is.ends in
      let turn : j * g.cluster ≡ g.cluster * j = omega arith in
      let less : g.cluster * (k - j) ≡ g.cluster * k - g.cluster * j = mul-sub g.cluster k j in
      let left : g.cluster * k - r.count ≡ g.cluster * (k - j) = omega arith in
      let cut_is : cut (g.cluster * k) (r ∷ rs) ≡ r ∷ cut (g.cluster * (k - j)) rs = cut-past (g.cluster * k) r rs past ∙ ap (λ z. r ∷ cut z rs) left in
      let range = range_with_len (r.lbn / g.cluster) j in
      let long : length range ≡ j = length-range_with_len (r.lbn / g.cluster) j in
      let front : length range ≤ k = elim (cases_lt k j) [
        | inl few ↦ let up : g.cluster * k ≤ g.cluster * j = mul-le-mul_left g.cluster (omega arith) in absurd (omega arith)
        | inr le ↦ omega arith
      ] in
      record {
        whole = subst (AreWhole g) (sym cut_is) (is, rest.whole);
        clusters = ap (clusters_of g.cluster) cut_is ∙ ap (λ xs. range ++ xs) rest.clusters ∙ ap (λ z. range ++ take (k - z) (clusters_of g.cluster rs)) (sym long)
            ∙ sym (take_past range (clusters_of g.cluster rs) k front);
      }

  -- the cut is within the first run
  within_first : (k : ℕ) (r : Run) (rs : List Run) → IsWhole g r → 1 ≤ k → g.cluster * k ≤ r.count → HasFirst g k (r ∷ rs) (cut (g.cluster * k) (r ∷ rs))
  within_first k r rs is some within =
      let j = r.count / g.cluster in
      let here : r.count ≡ j * g.cluster = whole r.count g.cluster low is.ends in
      let least : g.cluster * 1 ≤ g.cluster * k = mul-le-mul_left g.cluster some in
      let few : k ≤ j = elim (cases_lt j k) [
        | inl more ↦ let up : g.cluster * (j + 1) ≤ g.cluster * k = mul-le-mul_left g.cluster (omega arith) in let e : g.cluster * (j + 1) ≡ j * g.cluster + g.cluster = omega arith in absurd (omega arith)
        | inr le ↦ le
      ] in
      let cut_is : cut (g.cluster * k) (r ∷ rs) ≡ front_of r (g.cluster * k) ∷ [] = cut-within (g.cluster * k) r rs (omega arith) within in
      let range = range_with_len (r.lbn / g.cluster) j in
      let long : length range ≡ j = length-range_with_len (r.lbn / g.cluster) j in
      let inside = is.inside in
      let one : AreWhole g (front_of r (g.cluster * k) ∷ []) = (record { begins = is.begins; ends = mul-mod_right g.cluster k; inside = omega arith }, tt) in
      record {
        whole = subst (AreWhole g) (sym cut_is) one;
        clusters = ap (clusters_of g.cluster) cut_is ∙ append-nil _ ∙ ap (range_with_len (r.lbn / g.cluster)) (mul-div_cancel_left k low)
            ∙ sym (range_take (r.lbn / g.cluster) j k few) ∙ sym (take-append-le k range (clusters_of g.cluster rs) (omega arith));
      }

  pub first_clusters : (k : ℕ) (rs : List Run) → AreWhole g rs → HasFirst g k rs (cut (g.cluster * k) rs)
  first_clusters k [] h = record { whole = subst (AreWhole g) (sym (cut-nil (g.cluster * k))) tt; clusters = ap (clusters_of g.cluster) (cut-nil (g.cluster * k)) ∙ sym (take_all k [] (omega arith)) }
  first_clusters zero (r ∷ rs) h = none_first zero (r ∷ rs) refl
  first_clusters (suc k) (r ∷ rs) h =
      elim (cases_lt r.count (g.cluster * suc k)) [
        | inl past ↦ past_first (suc k) r rs h.0 past (first_clusters (suc k - r.count / g.cluster) rs h.1)
        | inr within ↦ within_first (suc k) r rs h.0 (omega arith) within
      ]
