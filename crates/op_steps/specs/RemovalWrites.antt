-- The writes that remove an entry from a directory.
use Rattle.std.specs.Prelude.{◌++◌, ℕ, List}
use Rattle.base_words.specs.Fields.{Block}
use Rattle.lock_db.specs.declared.name.LockName.{LockName}
use Rattle.lock_db.specs.declared.name.LockName.TheVariants.{S}
use Rattle.plain_cat.specs.declared.ids.Fid.{Fid}
use Rattle.plain_cat.specs.declared.entries.DirEnt.{DirEnt}
use Rattle.plain_cat.specs.declared.history.Stage.{Stage}
use Rattle.plain_cat.specs.declared.cat.Cat.{Cat}
use Rattle.plain_cat.specs.declared.cat.File.{File}
use Rattle.plain_rules.specs.Directories.{without}
use Rattle.plain_rules.specs.Changes.{with_entries}
use Rattle.base_words.specs.Lists.{Has}
use Rattle.vol_spell.specs.Owners.{Owners}
use Rattle.vol_parts.specs.declared.geometry.Geometry.{Geometry}
use Rattle.vol_spell.specs.Spelling.{Spells}
use Rattle.vol_spell.specs.Entries.{CanBeRemoved}
use Rattle.vol_under.specs.Chains.{End}
use Rattle.op_law.specs.declared.need.PlanWrite.{PlanWrite}
use Rattle.op_law.specs.Laws.{AreNamed}
use Rattle.op_law.specs.Writing.{empty_handed}
use Rattle.op_law.specs.Moving.{removal_writes}
use Rattle.op_steps.specs.Chained.{Chain, StepsOf, StageOf, after_writes, StandsOn, OthersStay}
use Rattle.op_steps.specs.EntryWrites.{dir_in}

-- The writes are steps: those that pack the entries leave the stage `before`, and the others the stage `after`. So are the writes
-- behind them that are steps on what they leave.
abbrev pub RemovalSteps : End → Type 0
RemovalSteps end = (k : Chain) (dir : Fid) (d : File) (e : DirEnt) (before after : Stage) (ws : List PlanWrite) (x : Cat) (bs : List Block) (own : Owners)
    → StandsOn k empty_handed x bs own → CanBeRemoved k.geometry x dir.num d e → StageOf k before x → StageOf k after (with_entries x dir.num d (without e.name e.ver d.entries))
    → (StandsOn k empty_handed (with_entries x dir.num d (without e.name e.ver d.entries)) (after_writes (removal_writes (dir_in k.geometry bs dir) e before after) bs) own
    → OthersStay k.geometry dir.num bs (after_writes (removal_writes (dir_in k.geometry bs dir) e before after) bs)
    → StepsOf end k ws (after_writes (removal_writes (dir_in k.geometry bs dir) e before after) bs) own)
    → StepsOf end k (removal_writes (dir_in k.geometry bs dir) e before after ++ ws) bs own

-- they are under the directory's lock, which guards what they touch
abbrev pub RemovalGuards : Type 0
RemovalGuards = (g : Geometry) (dir : Fid) (d : File) (e : DirEnt) (before after : Stage) (x : Cat) (bs : List Block) (own : Owners) (node : ℕ) (locks : List LockName) → Spells g bs own x → CanBeRemoved g x dir.num d e
    → Has locks (S dir.num) → AreNamed node locks g own (removal_writes (dir_in g bs dir) e before after)
