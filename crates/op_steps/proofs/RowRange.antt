-- The quota rows of a catalogue that is spelt are of 32 bits, and so are those of an owner who is charged less.
use Rattle.std.proofs.Common.{◌≡◌, ℕ, List, Some, sym, subst, arith}
use Rattle.std.specs.Prelude.{flat_map}
use Rattle.base_words.specs.Fields.{Block}
use Rattle.plain_cat.specs.declared.ids.Uic.{Uic}
use Rattle.plain_cat.specs.declared.cat.Cat.{Cat}
use Rattle.plain_cat.specs.declared.cat.QuotaRow.{QuotaRow}
use Rattle.plain_rules.specs.Lookups.{row_of}
use Rattle.vol_spell.specs.Owners.{Owners}
use Rattle.vol_spell.specs.Spread.{blocks_at}
use Rattle.vol_parts.specs.declared.geometry.Geometry.{Geometry}
use Rattle.vol_parts.specs.Volumes.{rows_in}
use Rattle.vol_spell.specs.Reading.{quota_places}
use Rattle.vol_spell.specs.Spelling.{Spells}
use Rattle.op_law.specs.Quotas.{row_discharged}
use Rattle.vol_spell.specs.Rows.{IsInRange, row_for}
use Rattle.vol_spell.proofs.RowRanges.{told_low, AreIn, sorted_in, found_in}

-- a row that is discharged stays in range
pub discharged_in : (g : Geometry) (bs : List Block) (own : Owners) (c : Cat) (s : Spells g bs own c) (owner : Uic) (less : ℕ) (r : QuotaRow) → row_of owner c.quota ≡ Some r → IsInRange (row_discharged less (row_for r))
discharged_in g bs own c s owner less r at =
    let all : AreIn c.quota = subst AreIn (sym s.rows.quota) (sorted_in (flat_map rows_in (blocks_at bs (quota_places g))) (told_low bs (quota_places g) s.whole)) in
    let old = found_in owner c.quota r all at in
    let top = old.usage in
    record { uic = old.uic; usage = omega arith; quota = old.quota; over = old.over }
