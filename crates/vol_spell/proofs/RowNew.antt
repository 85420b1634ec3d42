-- The write of a row that becomes active leads to blocks that spell the catalogue with this row more.
use Rattle.std.proofs.Common.{◌≡◌, ◌*◌, ◌/◌, ◌%◌, ◌<◌, ◌++◌, ℕ, List, ◌∷◌, None, length, map, slice_set, sym, ap, subst, ◌∙◌, arith, length-set}
use Rattle.std.specs.Prelude.{flat_map}
use Rattle.std.specs.List.{range_with_len, filter_map}
use Rattle.base_words.specs.Fields.{Block, IsWholeBlock}
use Rattle.fx_quota.specs.declared.types.Row.{Row}
use Rattle.fx_quota.specs.Rows.{row_put}
use Rattle.vol_parts.proofs.Tables.{whole_row}
use Rattle.plain_cat.specs.declared.cat.Cat.{Cat}
use Rattle.plain_cat.specs.declared.cat.QuotaRow.{QuotaRow}
use Rattle.plain_rules.specs.Lookups.{row_of}
use Rattle.plain_rules.specs.Changes.{with_row}
use Rattle.base_words.specs.Lists.{Has, Once}
use Rattle.vol_spell.specs.Owners.{Owners}
use Rattle.vol_parts.specs.declared.geometry.Geometry.{Geometry}
use Rattle.vol_parts.specs.declared.geometry.Part.TheVariants.{Quota}
use Rattle.vol_parts.specs.Volumes.{rows_in}
use Rattle.vol_parts.specs.Catalogues.{quota_row, rows_sorted}
use Rattle.vol_spell.specs.Reading.{rows_told}
use Rattle.vol_spell.specs.Places.{place_of}
use Rattle.vol_spell.specs.Spelling.{Spells}
use Rattle.vol_spell.specs.Kinds.{with_rows}
use Rattle.vol_spell.proofs.Parts.{part_there}
use Rattle.vol_spell.proofs.Keeping.{quota_write}
use Rattle.vol_spell.proofs.Viewing.{quota_set}
use Rattle.vol_spell.specs.Rows.{block_with, row_seen, IsInRange, quota_blocks, with_more, NewRowSpelt}
use Rattle.vol_spell.proofs.RowNewLists.{before, behind, given_without, given_with, sorted-more, once-more}
use Rattle.vol_spell.proofs.RowOrder.{untold_away}
use Rattle.vol_spell.proofs.RowBlocks.{rows_numbered, put_in, row-put_here, row-put_other}
use Rattle.vol_spell.proofs.RowKinds.{fits_in}
use Rattle.vol_spell.proofs.QuotaBlocks.{quota_count, quota_whole}

module _ (g : Geometry) (bs : List Block) (own : Owners) (x : Cat) (j : ℕ) (r : Row) (s : Spells g bs own x) (lt : j < 16 * g.cluster) (free : row_seen (quota_blocks g bs) j ≡ None)
    (none : row_of (record { 0 = r.uic }) x.quota ≡ None) (range : IsInRange r) where
  abbrev seen : List Block
  seen = quota_blocks g bs

  within : j < 16 * length (quota_blocks g bs)
  within = let count = quota_count g bs in omega arith

  inside : j / 16 < g.cluster
  inside = omega arith

  whole : IsWholeBlock (block_with (quota_blocks g bs) j)
  whole = quota_whole g bs own x (j / 16) s inside

  abbrev after : List Block
  after = slice_set bs (place_of g (Quota (j / 16))) (row_put (block_with seen j) (j % 16) r)

  -- the rows in front of it, and those behind it
  abbrev first : List Row
  first = before (row_seen seen) (16 * length seen) j within free

  abbrev last : List Row
  last = behind (row_seen seen) (16 * length seen) j within free

  old_rows : rows_told g bs ≡ first ++ last
  old_rows = rows_numbered seen ∙ given_without (row_seen seen) (16 * length seen) j within free

  new_rows : rows_told g after ≡ first ++ r ∷ last
  new_rows =
      let part = part_there g bs own x s (Quota (j / 16)) inside in
      let lt = within in
      let here : j / 16 < length seen = omega arith in
      let fits = fits_in r range in
      let put = put_in seen j r whole here fits in
      let long : length put ≡ length seen = length-set seen (j / 16) (row_put (block_with seen j) (j % 16) r) in
      ap (flat_map rows_in) (quota_set g bs own x (j / 16) (place_of g (Quota (j / 16))) (row_put (block_with seen j) (j % 16) r) s part)
      ∙ rows_numbered put ∙ ap (λ n. filter_map (row_seen put) (range_with_len 0 (16 * n))) long
      ∙ given_with (row_seen seen) (16 * length seen) j within free (row_seen put) r (row-put_here seen j r whole here fits) (λ i ne. row-put_other seen j r whole here fits i ne)

  -- no row is the owner's
  away : Has (map (λ r. r.uic) (first ++ last)) r.uic → ⊥
  away t = untold_away (record { 0 = r.uic }) (rows_told g bs) s.rows.once (ap (row_of (record { 0 = r.uic })) (sym s.rows.quota) ∙ none) (subst (λ (rs : List Row). Has (map (λ r. r.uic) rs) r.uic) (sym old_rows) t)

  once : Once (map (λ r. r.uic) (rows_told g after))
  once = subst (λ (rs : List Row). Once (map (λ r. r.uic) rs)) (sym new_rows) (once-more r first last away (subst (λ (rs : List Row). Once (map (λ r. r.uic) rs)) old_rows s.rows.once))

  same : with_rows g after x ≡ with_more (quota_row r) x
  same = ap (λ (q : List QuotaRow). record x { quota = q })
      (ap rows_sorted new_rows ∙ sorted-more r first last away ∙ ap (λ rs. with_row (quota_row r) (rows_sorted rs)) (sym old_rows) ∙ ap (with_row (quota_row r)) (sym s.rows.quota))

  spelt : Spells g after own (with_more (quota_row r) x)
  spelt = subst (λ (c : Cat). Spells g after own c) same
      (quota_write g bs own x (j / 16) (place_of g (Quota (j / 16))) (row_put (block_with seen j) (j % 16) r) s (whole_row (block_with seen j) (j % 16) r whole (omega arith)) (part_there g bs own x s (Quota (j / 16)) inside) once)

pub new_row_spelt : NewRowSpelt
new_row_spelt g bs own x j r s lt free none range = spelt g bs own x j r s lt free none range
