-- Bits and rows that are set.
use Rattle.std.proofs.Common.{◌≡◌, ◌==◌, ◌≤◌, ◌<◌, ◌+◌, ◌*◌, ◌/◌, ◌%◌, ◌∙◌, zero, suc, ℕ, not, min, List, ◌∷◌, Option, Some, None, map, nat_le, refl, ap, arith}
use Rattle.std.specs.Prelude.{slice_index, option_map}
use Rattle.std.specs.List.{range_with_len, filter_map, cons_option}
use Rattle.std.proofs.lemmas.Bool.Decides.{nat_tests}
use Rattle.base_words.specs.Fields.{Block}
use Rattle.fx_bitmap.specs.Bits.{is_among}
use Rattle.fx_quota.specs.declared.types.Row.{Row}
use Rattle.fx_quota.specs.Rows.{row_at}
use Rattle.vol_parts.specs.Volumes.{Volume, total, is_in_files, rows_in}
use Rattle.vol_faults.specs.Counts.{times, AreCounts}
use Rattle.vol_faults.proofs.SharingLemmas.{some-times}

-- one bit
pub among_one : (i j : ℕ) → is_among i 1 j ≡ (j == i)
among_one i j = grind (arith, nat_tests)

-- a count of 0 says that no file has a cluster
pub none_counted : (v : Volume) (counts : List ℕ) (q : ℕ) → AreCounts v counts → q < total v → (slice_index counts q == 0) ≡ not (is_in_files v q)
none_counted v counts q h lt = ap (λ k. k == 0) (h.each q lt) ∙ (zero_is (times v q) ∙ ap not (some-times v q)) where
  zero_is : (t : ℕ) → (min 2 t == 0) ≡ not (nat_le 1 t)
  zero_is t = grind (arith, nat_tests)

-- the rows that are active, each changed
rows_from : (f : Row → Row) (old new : ℕ → Option Row) (a n : ℕ) → ((j : ℕ) → a ≤ j → j < a + n → new j ≡ option_map f (old j)) → filter_map new (range_with_len a n) ≡ map f (filter_map old (range_with_len a n))
rows_from f old new a zero h = refl
rows_from f old new a (suc n) h = by_row (new a) (old a) (h a (omega arith) (omega arith)) (rows_from f old new (a + 1) n (λ j from to. h j (omega (arith, from)) (omega (arith, to)))) where
  by_row : (x y : Option Row) → x ≡ option_map f y → filter_map new (range_with_len (a + 1) n) ≡ map f (filter_map old (range_with_len (a + 1) n))
      → cons_option x (filter_map new (range_with_len (a + 1) n)) ≡ map f (cons_option y (filter_map old (range_with_len (a + 1) n)))
  by_row x None e ih = ap (λ o. cons_option o (filter_map new (range_with_len (a + 1) n))) e ∙ ih
  by_row x (Some r) e ih = ap (λ o. cons_option o (filter_map new (range_with_len (a + 1) n))) e ∙ ap (λ rs. f r ∷ rs) ih

pub rows_all : (f : Row → Row) (old new : Block) → ((j : ℕ) → j < 16 → row_at new j ≡ option_map f (row_at old j)) → rows_in new ≡ map f (rows_in old)
unfolding rows_in
rows_all f old new h = rows_from f (row_at old) (row_at new) 0 16 (λ j from to. h j to)

-- ---- clusters of a block

-- a cluster's place among those of its block
pub place_in_block : (q k : ℕ) → q / 4096 ≡ k → (q % 4096 < 4096) × (4096 * k + q % 4096 ≡ q)
place_in_block q k e = (omega arith, omega (arith, e))
