-- Runs of which adjacent ones are merged have the same clusters and blocks, and pointers that have room in a header.
use Rattle.std.proofs.Common.{◌≡◌, ◌<◌, ◌≤◌, ◌+◌, ◌*◌, ◌-◌, ◌/◌, ◌%◌, ◌^◌, ◌++◌, ◌&&◌, ℕ, zero, suc, Bool, true, false, List, [], ◌∷◌, length, refl, sym, ap, subst, ◌∙◌, arith, cond, nat_lt, length-append}
use Rattle.std.specs.Prelude.{flat_map}
use Rattle.std.specs.List.{range_with_len}
use Rattle.std.proofs.lemmas.Bool.Decides.{nat_tests}
use Rattle.std.proofs.lemmas.Grind.{flat_map-append}
use Rattle.std.proofs.lemmas.List.Elements.{All-head, All-tail}
use Rattle.std.proofs.lemmas.List.FromFn.{length-range_with_len}
use Rattle.fx_header.specs.declared.run.Run.{Run}
use Rattle.fx_header.specs.Pointers.{IsRun, AreRuns, merged, word, long, first_word, pointer_bytes, blocks_in, lbns_in}
use Rattle.fx_header.proofs.SpellLemmas.{lbns_in-merged, blocks_in-merged}
use Rattle.vol_parts.specs.declared.geometry.Geometry.{Geometry}
use Rattle.vol_spell.specs.Reading.{clusters_of}
use Rattle.vol_spell.specs.Spelling.{IsWhole, AreWhole}
use Rattle.vol_spell.proofs.Runs.{whole}
use Rattle.vol_spell.proofs.RunRows.{whole_front, whole_back, whole_both, whole_joined, clusters_joined}
use Rattle.vol_mends.specs.Surplus.{AreMerged}
use Rattle.vol_mends.proofs.Surplus.{blocks_joined}

-- ---- runs that touch

module _ (g : Geometry) (low : 1 ≤ g.cluster) where
  pub whole_merged : (rs : List Run) → AreWhole g rs → AreWhole g (merged rs)
  whole_merged [] h = h
  whole_merged (r ∷ rs) h = whole_joined g low r (merged rs) h.0 (whole_merged rs h.1)

  pub clusters_merged : (rs : List Run) → AreWhole g rs → clusters_of g.cluster (merged rs) ≡ clusters_of g.cluster rs
  clusters_merged [] h = refl
  clusters_merged (r ∷ rs) h =
      clusters_joined g low r (merged rs) h.0 (whole_merged rs h.1) ∙ ap (λ qs. range_with_len (r.lbn / g.cluster) (r.count / g.cluster) ++ qs) (clusters_merged rs h.1)

  -- ---- runs of which the last ones are merged

  pub whole_now : (old new : List Run) → AreMerged old new → AreWhole g old → AreWhole g new
  whole_now old new m h =
      let both = subst (AreWhole g) m.was h in
      subst (AreWhole g) (sym m.now) (whole_both g m.front (merged m.back) (whole_front g m.front m.back both) (whole_merged m.back (whole_back g m.front m.back both)))

  pub clusters_now : (old new : List Run) → AreMerged old new → AreWhole g old → clusters_of g.cluster new ≡ clusters_of g.cluster old
  clusters_now old new m h =
      let both = subst (AreWhole g) m.was h in
      let spelt = λ (r : Run). range_with_len (r.lbn / g.cluster) (r.count / g.cluster) in
      ap (clusters_of g.cluster) m.now
      ∙ (flat_map-append spelt m.front (merged m.back)
      ∙ (ap (λ qs. clusters_of g.cluster m.front ++ qs) (clusters_merged m.back (whole_back g m.front m.back both))
      ∙ (sym (flat_map-append spelt m.front m.back) ∙ ap (clusters_of g.cluster) (sym m.was))))

  -- ---- the words of their pointers

  -- a run of whole clusters has one at least, and two where it has more blocks than one cluster can have
  has_cluster : (r : Run) (k : ℕ) → IsRun r → r.count ≡ k * g.cluster → 1 ≤ k
  has_cluster r zero is e = let count = is.0 in let none : 0 * g.cluster ≡ 0 = omega arith in absurd (omega arith)
  has_cluster r (suc k) is e = omega arith

  has_two : (r : Run) (k : ℕ) → g.cluster < r.count → r.count ≡ k * g.cluster → 2 ≤ k
  has_two r zero many e = let none : 0 * g.cluster ≡ 0 = omega arith in absurd (omega arith)
  has_two r (suc zero) many e = let one : 1 * g.cluster ≡ g.cluster = omega arith in absurd (omega arith)
  has_two r (suc (suc k)) many e = omega arith

  short_pointer : (r : Run) → g.cluster ≤ 16 → IsWhole g r → IsRun r → length (pointer_bytes r) ≤ 4 * (r.count / g.cluster)
  unfolding pointer_bytes
  short_pointer r few h is = by_format (nat_lt r.lbn (2 ^ 22)) (nat_lt (r.count - 1) (2 ^ 8)) (nat_lt (r.count - 1) (2 ^ 14)) refl refl where
    is_whole : r.count ≡ r.count / g.cluster * g.cluster
    is_whole = whole r.count g.cluster low h.ends

    by_format : (near small middle : Bool) → nat_lt r.lbn (2 ^ 22) ≡ near → nat_lt (r.count - 1) (2 ^ 8) ≡ small
        → length (cond (near && small) (first_word 1 (r.lbn / 2 ^ 16 * 2 ^ 8 + (r.count - 1)) ++ word (r.lbn % 2 ^ 16)) (cond middle (first_word 2 (r.count - 1) ++ long r.lbn) (first_word 3 ((r.count - 1) / 2 ^ 16) ++ word ((r.count - 1) % 2 ^ 16) ++ long r.lbn))) ≤ 4 * (r.count / g.cluster)
    by_format true true middle a b = omega (arith, has_cluster r (r.count / g.cluster) is is_whole)
    by_format false small middle a b = let up = is.1 in let far : 2 ^ 22 ≤ r.lbn = grind (arith, nat_tests) in absurd (omega arith)
    by_format true false true a b = let many : 257 ≤ r.count = grind (arith, nat_tests) in omega (arith, has_two r (r.count / g.cluster) (omega arith) is_whole)
    by_format true false false a b = let many : 257 ≤ r.count = grind (arith, nat_tests) in omega (arith, has_two r (r.count / g.cluster) (omega arith) is_whole)

  pub short_pointers : (rs : List Run) → g.cluster ≤ 16 → AreWhole g rs → AreRuns rs → length (flat_map pointer_bytes rs) ≤ 4 * length (clusters_of g.cluster rs)
  short_pointers [] few h is = omega arith
  short_pointers (r ∷ rs) few h is =
      let here = short_pointer r few h.0 (All-head IsRun r rs is) in
      let rest = short_pointers rs few h.1 (All-tail IsRun r rs is) in
      let a = length-append (pointer_bytes r) (flat_map pointer_bytes rs) in
      let b = length-append (range_with_len (r.lbn / g.cluster) (r.count / g.cluster)) (clusters_of g.cluster rs) in
      let c = length-range_with_len (r.lbn / g.cluster) (r.count / g.cluster) in
      omega arith

pub lbns_now : (old new : List Run) → AreMerged old new → lbns_in new ≡ lbns_in old
lbns_now old new m =
    let each = λ (r : Run). range_with_len r.lbn r.count in
    ap lbns_in m.now
    ∙ (flat_map-append each m.front (merged m.back) ∙ (ap (λ ls. lbns_in m.front ++ ls) (lbns_in-merged m.back) ∙ (sym (flat_map-append each m.front m.back) ∙ ap lbns_in (sym m.was))))

pub blocks_now : (old new : List Run) → AreMerged old new → blocks_in new ≡ blocks_in old
blocks_now old new m =
    ap blocks_in m.now
    ∙ (blocks_joined m.front (merged m.back) ∙ (ap (λ k. blocks_in m.front + k) (blocks_in-merged m.back) ∙ (sym (blocks_joined m.front m.back) ∙ ap blocks_in (sym m.was))))
