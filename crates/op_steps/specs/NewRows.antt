-- The write of a quota row that becomes active.
use Rattle.std.specs.Prelude.{◌≡◌, ◌++◌, ℕ, List, [], ◌∷◌, Some, None, is_none}
use Rattle.base_words.specs.Fields.{Block}
use Rattle.fx_quota.specs.declared.types.Row.{Row}
use Rattle.lock_db.specs.declared.name.LockName.{LockName}
use Rattle.lock_db.specs.declared.name.LockName.TheVariants.{Q}
use Rattle.plain_cat.specs.declared.history.Stage.{Stage}
use Rattle.plain_cat.specs.declared.cat.Cat.{Cat}
use Rattle.plain_rules.specs.Lookups.{row_of}
use Rattle.base_words.specs.Lists.{Has}
use Rattle.vol_spell.specs.Owners.{Owners}
use Rattle.vol_spell.specs.Spread.{blocks_at}
use Rattle.vol_parts.specs.declared.geometry.Geometry.{Geometry}
use Rattle.vol_parts.specs.Catalogues.{quota_row}
use Rattle.vol_spell.specs.Reading.{quota_places}
use Rattle.vol_spell.specs.Spelling.{Spells}
use Rattle.vol_spell.specs.Rows.{IsInRange, with_more}
use Rattle.vol_under.specs.Chains.{End}
use Rattle.op_law.specs.declared.need.PlanWrite.{PlanWrite}
use Rattle.op_law.specs.Laws.{AreNamed}
use Rattle.op_law.specs.Writing.{Held}
use Rattle.op_law.specs.Quotas.{row_place, row_write}
use Rattle.op_steps.specs.Chained.{Chain, StepsOf, StageOf, after_writes, StandsOn, FilesStay}

-- row j of the quota blocks, which counts from 0 through all of them, is the first that is not active
abbrev pub IsFirstFree : Geometry → List Block → ℕ → Type 0
IsFirstFree g bs j = row_place (λ r. is_none r) (blocks_at bs (quota_places g)) ≡ Some j

-- the write that makes row j active with these values, by the quota blocks as they stand
abbrev pub new_row_writes : Geometry → List Block → ℕ → Row → Stage → Held → List PlanWrite
new_row_writes g bs j r s out = row_write g (blocks_at bs (quota_places g)) j r s out ∷ []

-- the write of the first row that is not active, for an owner who has no row, is a step, and so are the writes behind it that are
-- steps on what it leaves
abbrev pub NewRowSteps : End → Type 0
NewRowSteps end = (k : Chain) (j : ℕ) (r : Row) (s : Stage) (out : Held) (ws : List PlanWrite) (x : Cat) (bs : List Block) (own : Owners)
    → StandsOn k out x bs own → IsFirstFree k.geometry bs j → row_of (record { 0 = r.uic }) x.quota ≡ None → IsInRange r → StageOf k s (with_more (quota_row r) x)
    → (StandsOn k out (with_more (quota_row r) x) (after_writes (new_row_writes k.geometry bs j r s out) bs) own
    → FilesStay k.geometry bs (after_writes (new_row_writes k.geometry bs j r s out) bs)
    → StepsOf end k ws (after_writes (new_row_writes k.geometry bs j r s out) bs) own)
    → StepsOf end k (new_row_writes k.geometry bs j r s out ++ ws) bs own

-- the lock Q guards it, and it is under that lock
abbrev pub NewRowGuards : Type 0
NewRowGuards = (g : Geometry) (bs base : List Block) (own : Owners) (x : Cat) (j : ℕ) (r : Row) (s : Stage) (out : Held) (node : ℕ) (locks : List LockName) → Spells g base own x
    → IsFirstFree g bs j → Has locks Q → AreNamed node locks g own (new_row_writes g bs j r s out)
