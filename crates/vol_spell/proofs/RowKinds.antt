-- The write of a quota block, and of one row in it, leads to blocks that spell the catalogue with the rows changed.
use Rattle.std.proofs.Common.{◌≡◌, ◌*◌, ◌/◌, ◌%◌, ◌<◌, ℕ, true, List, Some, length, map, slice_set, sym, ap, subst, ◌∙◌, arith}
use Rattle.std.specs.Prelude.{flat_map}
use Rattle.std.specs.List.{range_with_len, filter_map}
use Rattle.base_words.specs.Fields.{Block, IsWholeBlock}
use Rattle.fx_quota.specs.declared.types.Row.{Row}
use Rattle.fx_quota.specs.Rows.{row_in}
use Rattle.fx_quota.proofs.Reading.{Fits}
use Rattle.vol_parts.proofs.Tables.{whole_row}
use Rattle.plain_cat.specs.declared.ids.Uic.{Uic}
use Rattle.plain_cat.specs.declared.cat.Cat.{Cat}
use Rattle.plain_cat.specs.declared.cat.QuotaRow.{QuotaRow}
use Rattle.plain_rules.specs.Lookups.{row_of}
use Rattle.base_words.specs.Lists.{Has, Once}
use Rattle.vol_spell.proofs.Placing.{ranged_has}
use Rattle.vol_parts.specs.declared.geometry.Part.TheVariants.{Quota}
use Rattle.vol_parts.specs.Volumes.{rows_in}
use Rattle.vol_parts.specs.Catalogues.{quota_row, rows_sorted}
use Rattle.vol_spell.specs.Reading.{rows_told}
use Rattle.vol_spell.specs.Places.{place_of}
use Rattle.vol_spell.specs.Spelling.{Spells}
use Rattle.vol_spell.specs.Kinds.{with_rows}
use Rattle.vol_spell.proofs.Parts.{part_there}
use Rattle.vol_spell.proofs.Keeping.{quota_write}
use Rattle.vol_spell.proofs.Viewing.{quota_set}
use Rattle.vol_spell.specs.Rows.{block_with, row_seen, is_row_of, IsInRange, row_for, quota_blocks, changed_block, RowsSpelt, RowSpelt}
use Rattle.vol_spell.proofs.RowLists.{has_item}
use Rattle.vol_spell.proofs.RowOrder.{row_changed, quota_changed, sorted-mapped, owners-mapped, changed-is, row_of-sorted}
use Rattle.vol_spell.proofs.RowBlocks.{rows_numbered, row_active, rows-changed}
use Rattle.vol_spell.proofs.QuotaBlocks.{quota_count, quota_whole}

pub rows_spelt : RowsSpelt
rows_spelt g bs own x k b change rows s lt whole is told =
    let after : List Block = slice_set bs (place_of g (Quota k)) b in
    let once : Once (map (λ r. r.uic) (rows_told g after)) = subst (λ (ns : List ℕ). Once ns) (sym (ap (map (λ r. r.uic)) told ∙ owners-mapped change rows is (rows_told g bs))) s.rows.once in
    let same : with_rows g after x ≡ record x { quota = map rows x.quota } =
    ap (λ (q : List QuotaRow). record x { quota = q }) (ap rows_sorted told ∙ sorted-mapped change rows is (rows_told g bs) ∙ ap (map rows) (sym s.rows.quota)) in
    subst (λ (c : Cat). Spells g after own c) same (quota_write g bs own x k (place_of g (Quota k)) b s whole (part_there g bs own x s (Quota k) lt) once)

-- a row that is in range fits
pub fits_in : (r : Row) → IsInRange r → Fits r
fits_in r h = record { uic = h.uic; usage = h.usage; quota = h.quota; over = h.over }

-- the row that is found is the catalogue's
row_fits : (owner : Uic) (change : Row → Row) (x : Cat) (qs : List Block) (j : ℕ) → x.quota ≡ rows_sorted (flat_map rows_in qs) → Once (map (λ r. r.uic) (flat_map rows_in qs)) → j < 16 * length qs → is_row_of owner (row_seen qs j) ≡ true
    → ((r : QuotaRow) → row_of owner x.quota ≡ Some r → IsInRange (change (row_for r))) → Fits (change (row_in (block_with qs j) (j % 16)))
row_fits owner change x qs j quota once lt is range =
    let old = row_in (block_with qs j) (j % 16) in
    let active = row_active owner (block_with qs j) (j % 16) is in
    let item : Has (filter_map (row_seen qs) (range_with_len 0 (16 * length qs))) old = has_item (λ (r : Row). r.uic) (row_seen qs) (range_with_len 0 (16 * length qs)) j old (ranged_has 0 (16 * length qs) j (omega arith) (omega arith)) active.0 in
    let told : Has (flat_map rows_in qs) old = subst (λ (rs : List Row). Has rs old) (sym (rows_numbered qs)) item in
    fits_in (change old) (range (quota_row old) (ap (row_of owner) quota ∙ row_of-sorted owner (flat_map rows_in qs) old once told active.1))

pub row_spelt : RowSpelt
row_spelt g bs own x owner j change rows s lt found is range =
    let qs : List Block = quota_blocks g bs in
    let count = quota_count g bs in
    let within : j < 16 * length qs = omega arith in
    let inside : j / 16 < g.cluster = omega arith in
    let part = part_there g bs own x s (Quota (j / 16)) inside in
    let whole : IsWholeBlock (block_with qs j) = quota_whole g bs own x (j / 16) s inside in
    let fits = row_fits owner change x qs j s.rows.quota s.rows.once within found range in
    let told : rows_told g (slice_set bs (place_of g (Quota (j / 16))) (changed_block qs j change)) ≡ map (row_changed owner change) (rows_told g bs) =
    ap (flat_map rows_in) (quota_set g bs own x (j / 16) (place_of g (Quota (j / 16))) (changed_block qs j change) s part) ∙ rows-changed owner change qs j whole within s.rows.once found fits in
    rows_spelt g bs own x (j / 16) (changed_block qs j change) (row_changed owner change) (quota_changed owner rows) s inside
    (whole_row (block_with qs j) (j % 16) (change (row_in (block_with qs j) (j % 16))) whole (omega arith)) (changed-is owner change rows is) told
