-- The quota rows of a catalogue that is spelt are of 32 bits.
use Rattle.std.proofs.Common.{◌≡◌, ◌%◌, ℕ, Bool, true, false, cond, List, [], ◌∷◌, ◌++◌, Option, Some, None, slice_get, refl, sym, subst, arith}
use Rattle.std.specs.Prelude.{◌==◌, nat_lt, unwrap_or, flat_map, slice_index_or}
use Rattle.std.specs.List.{range_with_len, filter_map, cons_option}
use Rattle.std.proofs.lemmas.Option.{unwrap_or-slice_get}
use Rattle.base_words.specs.Fields.{Block, IsBytes, AreWholeBlocks}
use Rattle.base_words.proofs.Puts.{field-lt}
use Rattle.fx_quota.specs.declared.types.Row.{Row}
use Rattle.fx_quota.specs.Rows.{flags_at, row_in, row_at}
use Rattle.plain_cat.specs.declared.ids.Uic.{Uic}
use Rattle.plain_cat.specs.declared.cat.QuotaRow.{QuotaRow}
use Rattle.plain_rules.specs.Lookups.{row_of}
use Rattle.plain_rules.specs.Changes.{with_row}
use Rattle.vol_spell.specs.Spread.{blocks_at}
use Rattle.vol_parts.specs.Volumes.{rows_in}
use Rattle.vol_parts.specs.Catalogues.{quota_row, rows_sorted}
use Rattle.vol_spell.specs.Reading.{quota_places}
use Rattle.vol_spell.specs.Rows.{IsInRange, row_for, RowsInRange}

-- ---- rows of a block

abbrev pub AllIn : List Row → Type 0
AllIn [] = Unit {0}
AllIn (r ∷ rs) = IsInRange r × AllIn rs

pub row_low : (b : Block) (i : ℕ) → IsBytes b → IsInRange (row_in b i)
row_low b i bytes = record {
  uic = field-lt b _ 4 bytes;
  usage = field-lt b _ 4 bytes;
  quota = field-lt b _ 4 bytes;
  over = field-lt b _ 4 bytes;
}

pub rows_low : (b : Block) (js : List ℕ) → IsBytes b → AllIn (filter_map (row_at b) js)
unfolding row_at
rows_low b [] bytes = tt
rows_low b (j ∷ js) bytes = by_test (flags_at b j % 2 == 1) (rows_low b js bytes) where
  by_test : (t : Bool) → AllIn (filter_map (row_at b) js) → AllIn (cons_option (cond t (Some (row_in b j)) None) (filter_map (row_at b) js))
  by_test true rest = (row_low b j bytes, rest)
  by_test false rest = rest

pub both_in : (xs ys : List Row) → AllIn xs → AllIn ys → AllIn (xs ++ ys)
both_in [] ys p q = q
both_in (x ∷ xs) ys p q = (p.0, both_in xs ys p.1 q)

pub block_bytes : (bs : List Block) (l : ℕ) → AreWholeBlocks bs → IsBytes (slice_index_or bs l [])
block_bytes bs l whole = subst IsBytes (unwrap_or-slice_get bs l []) (by_there (slice_get bs l) refl) where
  by_there : (o : Option Block) → slice_get bs l ≡ o → IsBytes (unwrap_or o [])
  by_there (Some b) e = (whole l b e).bytes
  by_there None e = λ i. omega arith

pub told_low : (bs : List Block) (ls : List ℕ) → AreWholeBlocks bs → AllIn (flat_map rows_in (blocks_at bs ls))
unfolding rows_in
told_low bs [] whole = tt
told_low bs (l ∷ ls) whole = both_in (rows_in (slice_index_or bs l [])) (flat_map rows_in (blocks_at bs ls)) (rows_low (slice_index_or bs l []) (range_with_len 0 16) (block_bytes bs l whole)) (told_low bs ls whole)

-- ---- rows of a catalogue

abbrev pub AreIn : List QuotaRow → Type 0
AreIn [] = Unit {0}
AreIn (r ∷ rs) = IsInRange (row_for r) × AreIn rs

pub with_in : (r : QuotaRow) (rs : List QuotaRow) → IsInRange (row_for r) → AreIn rs → AreIn (with_row r rs)
with_in r [] p q = (p, q)
with_in r (x ∷ rs) p q = by_test (nat_lt r.owner.0 x.owner.0) (with_in r rs p q.1) where
  by_test : (t : Bool) → AreIn (with_row r rs) → AreIn (cond t (r ∷ x ∷ rs) (x ∷ with_row r rs))
  by_test true rest = (p, q)
  by_test false rest = (q.0, rest)

pub sorted_in : (rs : List Row) → AllIn rs → AreIn (rows_sorted rs)
sorted_in [] p = tt
sorted_in (r ∷ rs) p = with_in (quota_row r) (rows_sorted rs) p.0 (sorted_in rs p.1)

pub found_in : (owner : Uic) (rs : List QuotaRow) (r : QuotaRow) → AreIn rs → row_of owner rs ≡ Some r → IsInRange (row_for r)
found_in owner [] r p e = absurd (let f : None ≡ Some r = e in cc)
found_in owner (x ∷ rs) r p e = by_test (x.owner.0 == owner.0) e (found_in owner rs r p.1) where
  by_test : (t : Bool) → cond t (Some x) (row_of owner rs) ≡ Some r → (row_of owner rs ≡ Some r → IsInRange (row_for r)) → IsInRange (row_for r)
  by_test true h more = let f : x ≡ r = cc in subst (λ y. IsInRange (row_for y)) f p.0
  by_test false h more = more h

pub rows_in_range : RowsInRange
rows_in_range g bs own x owner r s at =
    let all : AreIn x.quota = subst AreIn (sym s.rows.quota) (sorted_in (flat_map rows_in (blocks_at bs (quota_places g))) (told_low bs (quota_places g) s.whole)) in
    found_in owner x.quota r all at
