-- The row of an owner in the quota blocks of a volume, and what a change of it leaves.
use Rattle.std.specs.Prelude.{◌≡◌, ◌==◌, ◌/◌, ◌%◌, ◌*◌, ◌<◌, ◌^◌, ℕ, Bool, true, false, List, [], Option, Some, None, map, slice_set, slice_index_or, if◌then◌else◌}
use Rattle.base_words.specs.Fields.{Block, IsWholeBlock}
use Rattle.fx_quota.specs.declared.types.Row.{Row}
use Rattle.fx_quota.specs.Rows.{row_in, row_at, row_put}
use Rattle.plain_cat.specs.declared.ids.Uic.{Uic}
use Rattle.plain_cat.specs.declared.cat.Cat.{Cat}
use Rattle.plain_cat.specs.declared.cat.QuotaRow.{QuotaRow}
use Rattle.plain_rules.specs.Lookups.{row_of}
use Rattle.plain_rules.specs.Changes.{with_row}
use Rattle.vol_spell.specs.Owners.{Owners}
use Rattle.vol_spell.specs.Spread.{blocks_at}
use Rattle.vol_parts.specs.declared.geometry.Geometry.{Geometry}
use Rattle.vol_parts.specs.declared.geometry.Part.TheVariants.{Quota}
use Rattle.vol_parts.specs.Catalogues.{quota_row}
use Rattle.vol_spell.specs.Reading.{quota_places, rows_told}
use Rattle.vol_spell.specs.Places.{place_of}
use Rattle.vol_spell.specs.Spelling.{Spells}

-- ---- one row

-- the block of row j, which counts from 0 through all of these blocks
abbrev pub block_with : List Block → ℕ → Block
block_with qs j = slice_index_or qs (j / 16) []

-- row j, or none where it is not active
abbrev pub row_seen : List Block → ℕ → Option Row
row_seen qs j = row_at (block_with qs j) (j % 16)

-- a row is active and this owner's
abbrev pub is_row_of : Uic → Option Row → Bool
is_row_of owner None = false
is_row_of owner (Some r) = r.uic == owner.0

-- the numbers of a row are of 32 bits
pub record IsInRange (r : Row) : Type 0 where
  pub uic : r.uic < 2 ^ 32
  pub usage : r.usage < 2 ^ 32
  pub quota : r.quota < 2 ^ 32
  pub over : r.over < 2 ^ 32

-- the row on the volume of a row of the catalogue
abbrev pub row_for : QuotaRow → Row
row_for r = record { uic = r.owner.0; usage = r.usage; quota = r.quota; over = r.over }

-- each row of a catalogue that is spelt is in range
abbrev pub RowsInRange : Type 0
RowsInRange = (g : Geometry) (bs : List Block) (own : Owners) (x : Cat) (owner : Uic) (r : QuotaRow) → Spells g bs own x → row_of owner x.quota ≡ Some r → IsInRange (row_for r)

-- ---- a change of rows

-- a change of a row on the volume, and the same change of the catalogue's row
pub record IsRowChange (change : Row → Row) (rows : QuotaRow → QuotaRow) : Type 0 where
  pub owner : (r : Row) → (change r).uic ≡ r.uic
  pub same : (r : Row) → quota_row (change r) ≡ rows (quota_row r)

-- a quota block after whose write the rows are those before it, changed so: the catalogue's rows are
abbrev pub RowsSpelt : Type 0
RowsSpelt = (g : Geometry) (bs : List Block) (own : Owners) (x : Cat) (k : ℕ) (b : Block) (change : Row → Row) (rows : QuotaRow → QuotaRow) → Spells g bs own x → k < g.cluster → IsWholeBlock b → IsRowChange change rows
    → rows_told g (slice_set bs (place_of g (Quota k)) b) ≡ map change (rows_told g bs) → Spells g (slice_set bs (place_of g (Quota k)) b) own (record x { quota = map rows x.quota })

-- the quota blocks of a volume
abbrev pub quota_blocks : Geometry → List Block → List Block
quota_blocks g bs = blocks_at bs (quota_places g)

-- the block of row j in which the row is changed
abbrev pub changed_block : List Block → ℕ → (Row → Row) → Block
changed_block qs j change = row_put (block_with qs j) (j % 16) (change (row_in (block_with qs j) (j % 16)))

-- the catalogue in which the rows of an owner are changed
abbrev pub with_changed : Uic → (QuotaRow → QuotaRow) → Cat → Cat
with_changed owner rows x = record x { quota = map (λ r. if r.owner.0 == owner.0 then rows r else r) x.quota }

-- the row of an owner is changed, and stays in range: the catalogue's row is
abbrev pub RowSpelt : Type 0
RowSpelt = (g : Geometry) (bs : List Block) (own : Owners) (x : Cat) (owner : Uic) (j : ℕ) (change : Row → Row) (rows : QuotaRow → QuotaRow) → Spells g bs own x → j < 16 * g.cluster → is_row_of owner (row_seen (quota_blocks g bs) j) ≡ true
    → IsRowChange change rows → ((r : QuotaRow) → row_of owner x.quota ≡ Some r → IsInRange (change (row_for r)))
    → Spells g (slice_set bs (place_of g (Quota (j / 16))) (changed_block (quota_blocks g bs) j change)) own (with_changed owner rows x)

-- ---- a row more

-- the catalogue with one row more, in order of owner
abbrev pub with_more : QuotaRow → Cat → Cat
with_more r x = record x { quota = with_row r x.quota }

-- a row that is not active becomes that of an owner who has none: the catalogue has this row more
abbrev pub NewRowSpelt : Type 0
NewRowSpelt = (g : Geometry) (bs : List Block) (own : Owners) (x : Cat) (j : ℕ) (r : Row) → Spells g bs own x → j < 16 * g.cluster → row_seen (quota_blocks g bs) j ≡ None → row_of (record { 0 = r.uic }) x.quota ≡ None → IsInRange r
    → Spells g (slice_set bs (place_of g (Quota (j / 16))) (row_put (block_with (quota_blocks g bs) j) (j % 16) r)) own (with_more (quota_row r) x)
