-- What a run of a script answers on a volume.
use Rattle.std.specs.Prelude.{◌≡◌, ◌⊎◌, ℕ, false, List}
use Rattle.std.specs.List.{list_any}
use Rattle.base_words.specs.Fields.{Block}
use Rattle.fx_home.specs.Homes.{home_read}
use Rattle.plain_cat.specs.declared.script.Script.{Script}
use Rattle.plain_cat.specs.declared.cat.Cat.{Cat}
use Rattle.plain_rules.specs.Lookups.{free_clusters}
use Rattle.plain_rules.specs.Own.{Whole, Killed, is_mending}
use Rattle.plain_rules.specs.Replaying.{Replays}
use Rattle.vol_parts.specs.Findings.{home_at, Accepts, CatOf}
use Rattle.vol_faults.specs.Free.{IsGeometryBy}
use Rattle.run_script.specs.Soaks.{soak_script}
use Rattle.core_state.specs.Worlds.{Plain}
use Rattle.core_state.specs.Goods.{Good}
use Rattle.core_state.specs.Mounting.{IsMounted}
use Rattle.run_engine.specs.Walks.{played, budget_of, IsPartOfWalk, WalkUsesTheDrives, IsRotatedIn, IsNextIn, IsBeforeTaking}
use Rattle.run_engine.specs.Torn.{WalkCanStop}
use Rattle.core_state.specs.Ends.{AllOver}
use Rattle.run_engine.specs.Ended.{IsSpelt}
use Rattle.run_engine.specs.Summaries.{summary_bytes}
use Rattle.run_engine.specs.Stops.{report_text}

-- ---- which script a job runs

-- the one that is drawn from a number
abbrev pub IsSoakOf : ℕ → Script → Type 0
IsSoakOf n script = script ≡ soak_script n

-- ---- a run that has come to its end

-- A world of a script that a job runs: from the volume as it is mounted the script's plays and turns in rotation, at most as many as a
-- run makes, have led to it, and every node is over. In its history each node of the script gives each of its commands once and in
-- order, nodes die only where the script kills them, and nothing is mended; and it replays on one uncached volume, which begins with
-- the catalogue that the blocks tell, in which nothing is found. The volume's parts are where the home block says, from the mount on. The
-- image has the blocks of this world: with its parts there they spell the catalogue to which the history leads, and nothing is outside at any
-- node. Each block that a turn of the run has used from a cache was the drive's, and each world on the way could stop: it would have left a
-- catalogue with every answer so far, as which its drive mends.
pub record HasRunToEnd (IsGiven : Script → Type 0) (bs new : List Block) : Type 0 where
  pub script : Script
  pub start : Plain
  pub world : Plain
  pub opening : Cat
  pub after : Cat
  pub given : IsGiven script
  pub accepted : Accepts bs
  pub mounted : IsMounted bs script start
  pub walked : IsRotatedIn (budget_of start) (played script.plays start) world
  pub used : WalkUsesTheDrives start script.plays
  pub stop : WalkCanStop start script.plays
  pub over : AllOver world
  pub told : CatOf bs opening
  pub replayed : Replays opening script world.history after
  pub whole : Whole script world.history
  pub killed : Killed script world.history
  pub unmended : list_any is_mending world.history ≡ false
  pub parts : IsGeometryBy bs (home_read (home_at bs)) start.geometry
  pub image : new ≡ world.blocks
  pub left : IsSpelt start.geometry world.blocks after

-- The text is the report of the history of a world that has run the script to its end.
pub record IsReport (IsGiven : Script → Type 0) (bs new : List Block) (text : List ℕ) : Type 0 where
  pub ran : HasRunToEnd IsGiven bs new
  pub written : text ≡ report_text ran.world.history ran.after

-- the summary of a soak that has led to a world, whose history leads to a catalogue
abbrev pub summary_text : ℕ → Plain → Cat → List ℕ
summary_text n w c = summary_bytes n w (free_clusters c)

-- The text is the summary of a world that has run soak n to its end: of its history, of what its nodes have read and found cached, and
-- of the free clusters of the catalogue to which the history leads.
pub record IsSummary (n : ℕ) (bs new : List Block) (text : List ℕ) : Type 0 where
  pub ran : HasRunToEnd (IsSoakOf n) bs new
  pub written : text ≡ summary_text n ran.world ran.after

-- ---- a run as far as it came

-- A world that has run a script on the volume of these blocks, as far as its nodes came: plays and turns have led to it from the
-- volume as it is mounted, with its parts where the home block says, and it keeps the rules. Each block that a turn of the run has used from a
-- cache was the drive's, and each world on the way could stop.
pub record HasRun (script : Script) (bs : List Block) (w : Plain) : Type 0 where
  pub start : Plain
  pub mounted : IsMounted bs script start
  pub parts : IsGeometryBy bs (home_read (home_at bs)) start.geometry
  pub walked : IsPartOfWalk start script.plays w
  pub used : WalkUsesTheDrives start script.plays
  pub stop : WalkCanStop start script.plays
  pub good : Good w

-- Where a run, which has come from the first world to the second, can lack memory: before an event that takes some, of the node whose
-- turn it is; and for the report, once every node is over.
abbrev pub LacksMemory : Plain → List ℕ → Plain → Type 0
LacksMemory start plays w = IsBeforeTaking (IsNextIn start plays w) w ⊎ AllOver w
