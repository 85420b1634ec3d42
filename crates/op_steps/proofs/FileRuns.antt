-- The runs of a file's clusters, one for each, and what is read of them where those that touch are merged.
use Rattle.std.proofs.Common.{◌≡◌, ◌<◌, ◌≤◌, ◌+◌, ◌*◌, ◌-◌, ◌/◌, ◌%◌, ◌^◌, ◌++◌, ◌&&◌, ℕ, zero, suc, Bool, true, false, List, [], ◌∷◌, length, refl, sym, ap, ◌∙◌, inl, inr, arith, cond, nat_lt, length-append}
use Rattle.std.specs.Prelude.{flat_map}
use Rattle.std.specs.List.{range_with_len}
use Rattle.std.proofs.Math.Nat.{mul-mod_left, mul-div_cancel, mul-le-mul_left, div-mul-le_self}
use Rattle.std.proofs.lemmas.Bool.Decides.{nat_tests}
use Rattle.std.proofs.lemmas.List.Elements.{All-nil, All-cons, All-head, All-tail}
use Rattle.std.proofs.lemmas.List.FromFn.{length-range_with_len}
use Rattle.std.proofs.lemmas.List.Sums.{sum_by-cons}
use Rattle.fx_header.specs.declared.run.Run.{Run}
use Rattle.fx_header.specs.Pointers.{IsRun, AreRuns, merged, word, long, first_word, pointer_bytes, map_words, blocks_in, lbns_in}
use Rattle.fx_header.proofs.SpellLemmas.{AreRuns-merged, lbns_in-merged}
use Rattle.base_words.specs.Lists.{Has}
use Rattle.vol_spell.specs.Spread.{spread}
use Rattle.vol_parts.specs.declared.geometry.Geometry.{Geometry}
use Rattle.vol_spell.specs.Reading.{total_of, clusters_of}
use Rattle.vol_spell.specs.Spelling.{IsWhole, AreWhole}
use Rattle.op_law.specs.Writing.{runs_for}
use Rattle.vol_spell.proofs.Runs.{whole}
use Rattle.vol_spell.proofs.RunRows.{whole_joined, clusters_joined}

-- ---- a run for each cluster

module _ (g : Geometry) (low : 1 ≤ g.cluster) where
  run_whole : (q : ℕ) → q < total_of g → IsWhole g (record { lbn = q * g.cluster; count = g.cluster })
  run_whole q lt =
      let one : 1 * g.cluster ≡ g.cluster = omega arith in
      let up : g.cluster * (q + 1) ≤ g.cluster * total_of g = mul-le-mul_left g.cluster (omega arith) in
      record { begins = mul-mod_left q g.cluster; ends = ap (λ z. z % g.cluster) (sym one) ∙ mul-mod_left 1 g.cluster; inside = omega arith }

  pub whole_for : (qs : List ℕ) → ((q : ℕ) → Has qs q → q < total_of g) → AreWhole g (merged (runs_for g qs))
  whole_for [] within = tt
  whole_for (q ∷ qs) within =
      whole_joined g low (record { lbn = q * g.cluster; count = g.cluster }) (merged (runs_for g qs)) (run_whole q (within q (inl refl))) (whole_for qs (λ p t. within p (inr t)))

  pub clusters_for_runs : (qs : List ℕ) → ((q : ℕ) → Has qs q → q < total_of g) → clusters_of g.cluster (merged (runs_for g qs)) ≡ qs
  clusters_for_runs [] within = refl
  clusters_for_runs (q ∷ qs) within =
      let one : 1 * g.cluster ≡ g.cluster = omega arith in
      let first : q * g.cluster / g.cluster ≡ q = mul-div_cancel q low in
      let count : g.cluster / g.cluster ≡ 1 = ap (λ z. z / g.cluster) (sym one) ∙ mul-div_cancel 1 low in
      clusters_joined g low (record { lbn = q * g.cluster; count = g.cluster }) (merged (runs_for g qs)) (run_whole q (within q (inl refl))) (whole_for qs (λ p t. within p (inr t)))
      ∙ ap (λ z. range_with_len z (g.cluster / g.cluster) ++ clusters_of g.cluster (merged (runs_for g qs))) first
      ∙ ap (λ z. range_with_len q z ++ clusters_of g.cluster (merged (runs_for g qs))) count
      ∙ ap (λ xs. q ∷ xs) (clusters_for_runs qs (λ p t. within p (inr t)))

  pub are_runs_for : (qs : List ℕ) → ((q : ℕ) → Has qs q → q < total_of g) → g.blocks ≤ 65536 → AreRuns (runs_for g qs)
  are_runs_for [] within top = All-nil IsRun
  are_runs_for (q ∷ qs) within top =
      let lt = within q (inl refl) in
      let up : g.cluster * (q + 1) ≤ g.cluster * total_of g = mul-le-mul_left g.cluster (omega arith) in
      let all : total_of g * g.cluster ≤ g.blocks = div-mul-le_self g.blocks g.cluster in
      All-cons IsRun (record { lbn = q * g.cluster; count = g.cluster }) (runs_for g qs) (low, omega arith) (are_runs_for qs (λ p t. within p (inr t)) top)

  -- ---- the words of their pointers

  -- a run of whole clusters has one at least, and two where it has more blocks than one cluster can have
  has_cluster : (r : Run) (k : ℕ) → IsRun r → r.count ≡ k * g.cluster → 1 ≤ k
  has_cluster r zero is e = let count = is.0 in let none : 0 * g.cluster ≡ 0 = omega arith in absurd (omega arith)
  has_cluster r (suc k) is e = omega arith

  has_two : (r : Run) (k : ℕ) → g.cluster < r.count → r.count ≡ k * g.cluster → 2 ≤ k
  has_two r zero many e = let none : 0 * g.cluster ≡ 0 = omega arith in absurd (omega arith)
  has_two r (suc zero) many e = let one : 1 * g.cluster ≡ g.cluster = omega arith in absurd (omega arith)
  has_two r (suc (suc k)) many e = omega arith

  short_pointer : (r : Run) → g.cluster ≤ 16 → IsWhole g r → IsRun r → length (pointer_bytes r) ≤ 4 * (r.count / g.cluster)
  unfolding pointer_bytes
  short_pointer r few h is = by_format (nat_lt r.lbn (2 ^ 22)) (nat_lt (r.count - 1) (2 ^ 8)) (nat_lt (r.count - 1) (2 ^ 14)) refl refl where
    is_whole : r.count ≡ r.count / g.cluster * g.cluster
    is_whole = whole r.count g.cluster low h.ends

    by_format : (near small middle : Bool) → nat_lt r.lbn (2 ^ 22) ≡ near → nat_lt (r.count - 1) (2 ^ 8) ≡ small
        → length (cond (near && small) (first_word 1 (r.lbn / 2 ^ 16 * 2 ^ 8 + (r.count - 1)) ++ word (r.lbn % 2 ^ 16)) (cond middle (first_word 2 (r.count - 1) ++ long r.lbn) (first_word 3 ((r.count - 1) / 2 ^ 16) ++ word ((r.count - 1) % 2 ^ 16) ++ long r.lbn))) ≤ 4 * (r.count / g.cluster)
    by_format true true middle a b = omega (arith, has_cluster r (r.count / g.cluster) is is_whole)
    by_format false small middle a b = let up = is.1 in let far : 2 ^ 22 ≤ r.lbn = grind (arith, nat_tests) in absurd (omega arith)
    by_format true false true a b = let many : 257 ≤ r.count = grind (arith, nat_tests) in omega (arith, has_two r (r.count / g.cluster) (omega arith) is_whole)
    by_format true false false a b = let many : 257 ≤ r.count = grind (arith, nat_tests) in omega (arith, has_two r (r.count / g.cluster) (omega arith) is_whole)

  short_pointers : (rs : List Run) → g.cluster ≤ 16 → AreWhole g rs → AreRuns rs → length (flat_map pointer_bytes rs) ≤ 4 * length (clusters_of g.cluster rs)
  short_pointers [] few h is = omega arith
  short_pointers (r ∷ rs) few h is =
      let here = short_pointer r few h.0 (All-head IsRun r rs is) in
      let rest = short_pointers rs few h.1 (All-tail IsRun r rs is) in
      let a = length-append (pointer_bytes r) (flat_map pointer_bytes rs) in
      let b = length-append (range_with_len (r.lbn / g.cluster) (r.count / g.cluster)) (clusters_of g.cluster rs) in
      let c = length-range_with_len (r.lbn / g.cluster) (r.count / g.cluster) in
      omega arith

  -- the words of the runs of clusters have four bytes for each at most
  pub short_words : (qs : List ℕ) → ((q : ℕ) → Has qs q → q < total_of g) → g.cluster ≤ 16 → g.blocks ≤ 65536 → length (map_words (runs_for g qs)) ≤ 4 * length qs
  short_words qs within few top =
      let h = short_pointers (merged (runs_for g qs)) few (whole_for qs within) (AreRuns-merged (runs_for g qs) (are_runs_for qs within top)) in
      let e = ap length (clusters_for_runs qs within) in
      omega arith

-- the blocks of the runs of clusters are those of the clusters
pub lbns_for : (g : Geometry) (qs : List ℕ) → lbns_in (runs_for g qs) ≡ spread g.cluster qs
lbns_for g [] = refl
lbns_for g (q ∷ qs) = ap (λ xs. range_with_len (q * g.cluster) g.cluster ++ xs) (lbns_for g qs)

pub lbns_merged : (g : Geometry) (qs : List ℕ) → lbns_in (merged (runs_for g qs)) ≡ spread g.cluster qs
lbns_merged g qs = lbns_in-merged (runs_for g qs) ∙ lbns_for g qs

pub blocks_for_runs : (g : Geometry) (qs : List ℕ) → blocks_in (runs_for g qs) ≡ g.cluster * length qs
blocks_for_runs g [] = omega arith
blocks_for_runs g (q ∷ qs) =
    let a = sum_by-cons (λ (r : Run). r.count) (record { lbn = q * g.cluster; count = g.cluster }) (runs_for g qs) in
    let b = blocks_for_runs g qs in
    let c : g.cluster * suc (length qs) ≡ g.cluster + g.cluster * length qs = omega arith in
    omega arith
