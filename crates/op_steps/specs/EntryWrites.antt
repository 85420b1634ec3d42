-- The writes that enter an entry into a directory.
use Rattle.std.specs.Prelude.{◌++◌, ℕ, List}
use Rattle.base_words.specs.Fields.{Block}
use Rattle.lock_db.specs.declared.name.LockName.{LockName}
use Rattle.lock_db.specs.declared.name.LockName.TheVariants.{S}
use Rattle.plain_cat.specs.declared.ids.Fid.{Fid}
use Rattle.plain_cat.specs.declared.entries.DirEnt.{DirEnt}
use Rattle.plain_cat.specs.declared.history.Stage.{Stage}
use Rattle.plain_cat.specs.declared.cat.Cat.{Cat}
use Rattle.plain_cat.specs.declared.cat.File.{File}
use Rattle.plain_rules.specs.Directories.{inserted}
use Rattle.plain_rules.specs.Changes.{with_entries}
use Rattle.base_words.specs.Lists.{Has}
use Rattle.vol_spell.specs.Owners.{Owners}
use Rattle.vol_spell.specs.Spread.{blocks_at}
use Rattle.vol_parts.specs.declared.geometry.Geometry.{Geometry}
use Rattle.vol_spell.specs.Reading.{header_block}
use Rattle.vol_spell.specs.Spelling.{Spells}
use Rattle.vol_spell.specs.Entries.{CanBeEntered}
use Rattle.vol_under.specs.Chains.{End}
use Rattle.op_law.specs.declared.need.PlanWrite.{PlanWrite}
use Rattle.vol_spell.specs.Entries.{places_in}
use Rattle.op_law.specs.Laws.{AreNamed}
use Rattle.op_law.specs.Writing.{empty_handed}
use Rattle.op_law.specs.Moving.{SeenDir, insertion_writes}
use Rattle.op_steps.specs.Chained.{Chain, StepsOf, StageOf, after_writes, StandsOn, OthersStay}

-- the directory of an identifier as these blocks have it
abbrev pub dir_in : Geometry → List Block → Fid → SeenDir
dir_in g bs dir = record { fid = dir; head = header_block g bs dir.num; blocks = blocks_at bs (places_in (header_block g bs dir.num)) }

-- the writes are steps: all but the last leave the stage `before`, and that the stage `after`. So are the writes behind them that
-- are steps on what they leave.
abbrev pub EntrySteps : End → Type 0
EntrySteps end = (k : Chain) (dir : Fid) (d : File) (e : DirEnt) (before after : Stage) (ws : List PlanWrite) (x : Cat) (bs : List Block) (own : Owners)
    → StandsOn k empty_handed x bs own → CanBeEntered k.geometry x dir.num d e → StageOf k before x → StageOf k after (with_entries x dir.num d (inserted e d.entries))
    → (StandsOn k empty_handed (with_entries x dir.num d (inserted e d.entries)) (after_writes (insertion_writes (dir_in k.geometry bs dir) e before after) bs) own
    → OthersStay k.geometry dir.num bs (after_writes (insertion_writes (dir_in k.geometry bs dir) e before after) bs)
    → StepsOf end k ws (after_writes (insertion_writes (dir_in k.geometry bs dir) e before after) bs) own)
    → StepsOf end k (insertion_writes (dir_in k.geometry bs dir) e before after ++ ws) bs own

-- they are under the directory's lock, which guards what they touch
abbrev pub EntryGuards : Type 0
EntryGuards = (g : Geometry) (dir : Fid) (d : File) (e : DirEnt) (before after : Stage) (x : Cat) (bs : List Block) (own : Owners) (node : ℕ) (locks : List LockName) → Spells g bs own x → CanBeEntered g x dir.num d e
    → Has locks (S dir.num) → AreNamed node locks g own (insertion_writes (dir_in g bs dir) e before after)
