-- The write of an owner's quota row.
use Rattle.std.specs.Prelude.{◌≡◌, ◌++◌, ℕ, List, Some}
use Rattle.base_words.specs.Fields.{Block}
use Rattle.fx_quota.specs.declared.types.Row.{Row}
use Rattle.lock_db.specs.declared.name.LockName.{LockName}
use Rattle.lock_db.specs.declared.name.LockName.TheVariants.{Q}
use Rattle.plain_cat.specs.declared.ids.Uic.{Uic}
use Rattle.plain_cat.specs.declared.history.Stage.{Stage}
use Rattle.plain_cat.specs.declared.cat.Cat.{Cat}
use Rattle.plain_cat.specs.declared.cat.QuotaRow.{QuotaRow}
use Rattle.plain_rules.specs.Lookups.{row_of}
use Rattle.base_words.specs.Lists.{Has}
use Rattle.vol_spell.specs.Owners.{Owners}
use Rattle.vol_spell.specs.Spread.{blocks_at}
use Rattle.vol_parts.specs.declared.geometry.Geometry.{Geometry}
use Rattle.vol_spell.specs.Reading.{quota_places}
use Rattle.vol_spell.specs.Spelling.{Spells}
use Rattle.vol_spell.specs.Rows.{IsInRange, IsRowChange, row_for, with_changed}
use Rattle.vol_under.specs.Chains.{End}
use Rattle.op_law.specs.declared.need.PlanWrite.{PlanWrite}
use Rattle.op_law.specs.Laws.{AreNamed}
use Rattle.op_law.specs.Writing.{Held}
use Rattle.op_law.specs.Quotas.{owner_write}
use Rattle.op_steps.specs.Chained.{Chain, StepsOf, StageOf, after_writes, StandsOn, FilesStay}

-- the write of an owner's row by the quota blocks as they stand, if the owner has one
abbrev pub row_writes : Geometry → List Block → Uic → (Row → Row) → Stage → Held → List PlanWrite
row_writes g bs owner change s out = owner_write g (blocks_at bs (quota_places g)) owner change s out

-- the write is a step, and so are the writes behind it that are steps on what it leaves
abbrev pub RowSteps : End → Type 0
RowSteps end = (k : Chain) (owner : Uic) (change : Row → Row) (rows : QuotaRow → QuotaRow) (s : Stage) (out : Held) (ws : List PlanWrite) (x : Cat) (bs : List Block) (own : Owners)
    → StandsOn k out x bs own → IsRowChange change rows → ((r : QuotaRow) → row_of owner x.quota ≡ Some r → IsInRange (change (row_for r))) → StageOf k s (with_changed owner rows x)
    → (StandsOn k out (with_changed owner rows x) (after_writes (row_writes k.geometry bs owner change s out) bs) own
    → FilesStay k.geometry bs (after_writes (row_writes k.geometry bs owner change s out) bs)
    → StepsOf end k ws (after_writes (row_writes k.geometry bs owner change s out) bs) own)
    → StepsOf end k (row_writes k.geometry bs owner change s out ++ ws) bs own

-- the lock Q guards what it writes, and it is under that lock
abbrev pub RowGuards : Type 0
RowGuards = (g : Geometry) (bs base : List Block) (own : Owners) (x : Cat) (owner : Uic) (change : Row → Row) (s : Stage) (out : Held) (node : ℕ) (locks : List LockName) → Spells g base own x
    → Has locks Q → AreNamed node locks g own (row_writes g bs owner change s out)
