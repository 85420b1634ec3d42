-- The last writes of a command that makes something free: the bitmaps, and the row of the owner, who is charged less.
use Rattle.std.specs.Prelude.{◌≡◌, ◌≤◌, ◌++◌, ℕ, List, length, map}
use Rattle.base_words.specs.Fields.{Block}
use Rattle.lock_db.specs.declared.name.LockName.{LockName}
use Rattle.lock_db.specs.declared.name.LockName.TheVariants.{Q, V}
use Rattle.plain_cat.specs.declared.ids.Uic.{Uic}
use Rattle.plain_cat.specs.declared.history.Stage.{Stage}
use Rattle.plain_cat.specs.declared.cat.Cat.{Cat}
use Rattle.plain_rules.specs.Changes.{discharged}
use Rattle.base_words.specs.Lists.{Has}
use Rattle.vol_spell.specs.Owners.{Owners, nothing, Outs}
use Rattle.vol_spell.specs.Spread.{blocks_at}
use Rattle.vol_parts.specs.declared.geometry.Geometry.{Geometry}
use Rattle.vol_spell.specs.Reading.{quota_places}
use Rattle.vol_spell.specs.Spelling.{Spells}
use Rattle.vol_under.specs.UnderWay.{stage_after, outs_after}
use Rattle.vol_under.specs.Chains.{End}
use Rattle.vol_under.specs.Refilling.{HaveBlankSlots}
use Rattle.op_law.specs.declared.need.PlanWrite.{PlanWrite}
use Rattle.op_law.specs.Laws.{planned, AreNamed, most_outside, LeaveFew}
use Rattle.op_law.specs.Writing.{empty_handed}
use Rattle.op_law.specs.Quotas.{owner_write, row_discharged}
use Rattle.op_law.specs.Freeing.{blocks_for, freeing_tail}
use Rattle.op_steps.specs.Chained.{Chain, StepsOf, StageOf, after_writes, StandsOn, FilesStay}
use Rattle.op_steps.specs.BitmapWrites.{AreClusters, brought, bitmaps_freed}
use Rattle.op_steps.specs.Standing.{AreBeside}

-- the write of the owner's row, by the quota blocks as they stand, if the owner has one
abbrev pub row_freed : Geometry → Uic → ℕ → Stage → List Block → List PlanWrite
row_freed g owner less s bs = owner_write g (blocks_at bs (quota_places g)) owner (row_discharged less) s empty_handed

-- It is a step, and leads to the catalogue in which the owner's usage is lower. So are the writes behind it that are steps on what
-- it leaves.
abbrev pub DischargeSteps : End → Type 0
DischargeSteps end = (k : Chain) (owner : Uic) (less : ℕ) (s : Stage) (ws : List PlanWrite) (x : Cat) (bs : List Block) (own : Owners)
    → StandsOn k empty_handed x bs own → StageOf k s (discharged x owner less)
    → (StandsOn k empty_handed (discharged x owner less) (after_writes (row_freed k.geometry owner less s bs) bs) own
    → FilesStay k.geometry bs (after_writes (row_freed k.geometry owner less s bs) bs)
    → StepsOf end k ws (after_writes (row_freed k.geometry owner less s bs) bs) own)
    → StepsOf end k (row_freed k.geometry owner less s bs ++ ws) bs own

-- all of these writes, by the blocks as they stand before the first
abbrev pub tail_writes : Geometry → Stage → List ℕ → List ℕ → Uic → ℕ → Stage → List Block → List PlanWrite
tail_writes g s qs ns owner less last bs = bitmaps_freed g s qs ns bs ++ row_freed g owner less last bs

-- Where a command has these clusters and numbers outside, and the slots of the numbers are free, the writes are steps: those of the
-- bitmaps at the stage s, and that of the row at the last stage. After them it has nothing outside, the owner's usage is lower, and
-- each file is as it was. So are the writes behind them that are steps on what they leave.
abbrev pub TailSteps : End → Type 0
TailSteps end = (k : Chain) (s : Stage) (qs ns : List ℕ) (owner : Uic) (less : ℕ) (last : Stage) (ws : List PlanWrite) (x : Cat) (bs : List Block) (own : Owners)
    → Spells k.geometry bs own x → Outs k.node own (brought qs ns) k.stock → HaveBlankSlots k.geometry bs (brought qs ns).numbers → StageOf k s x → StageOf k last (discharged x owner less)
    → ((new : Owners) → StandsOn k empty_handed (discharged x owner less) (after_writes (tail_writes k.geometry s qs ns owner less last bs) bs) new
    → FilesStay k.geometry bs (after_writes (tail_writes k.geometry s qs ns owner less last bs) bs)
    → StepsOf end k ws (after_writes (tail_writes k.geometry s qs ns owner less last bs) bs) new)
    → StepsOf end k (tail_writes k.geometry s qs ns owner less last bs ++ ws) bs own

-- the bitmaps are under V and the row under Q, which guard what the writes touch
abbrev pub TailGuards : Type 0
TailGuards = (g : Geometry) (s : Stage) (qs ns : List ℕ) (owner : Uic) (less : ℕ) (last : Stage) (bs base : List Block) (own : Owners) (x : Cat) (node : ℕ) (locks : List LockName) → Spells g base own x
    → Has locks V → Has locks Q → AreNamed node locks g own (tail_writes g s qs ns owner less last bs)

-- the catalogue after them is that of the stage after them, also where the owner has no row
abbrev pub TailStage : Type 0
TailStage = (k : Chain) (s : Stage) (qs ns : List ℕ) (owner : Uic) (less : ℕ) (last : Stage) (x : Cat) (bs : List Block) (own : Owners)
    → Spells k.geometry bs own x → StageOf k s x → StageOf k last (discharged x owner less)
    → StageOf k (stage_after s (map planned (tail_writes k.geometry s qs ns owner less last bs))) (discharged x owner less)

-- nothing is outside after such writes, whatever was seen, where as many blocks were seen as have bits of the clusters
abbrev pub TailEnds : Type 0
TailEnds = (g : Geometry) (s : Stage) (qs ns : List ℕ) (storage : List Block) (index : Block) (quota : List Block) (owner : Uic) (less : ℕ) (last : Stage) → AreClusters g qs → length storage ≡ length (blocks_for g qs)
    → outs_after (brought qs ns) (map planned (freeing_tail g s qs ns storage index ++ owner_write g quota owner (row_discharged less) last empty_handed)) ≡ nothing

-- no more file numbers are outside between them than become free
abbrev pub TailLeavesFew : Type 0
TailLeavesFew = (g : Geometry) (s : Stage) (qs ns : List ℕ) (owner : Uic) (less : ℕ) (last : Stage) (bs : List Block) → length ns ≤ most_outside → LeaveFew (tail_writes g s qs ns owner less last bs)

-- Behind writes that are under neither V nor Q, on the committed owners, these are the writes that they were: the blocks that they
-- go by stand as they were seen.
abbrev pub TailStands : Type 0
TailStands = (node : ℕ) (locks : List LockName) (g : Geometry) (s : Stage) (qs ns : List ℕ) (owner : Uic) (less : ℕ) (last : Stage) (vs : List PlanWrite) (base : List Block) (own : Owners) (x : Cat) → Spells g base own x
    → AreBeside node locks g own vs V → AreBeside node locks g own vs Q → tail_writes g s qs ns owner less last (after_writes vs base) ≡ tail_writes g s qs ns owner less last base
