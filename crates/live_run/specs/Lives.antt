-- What the threads of a script leave on a volume, and a mending behind them.
use Rattle.std.specs.Prelude.{◌≡◌, ◌⊎◌, ℕ, true, List, take, Some}
use Rattle.base_words.specs.Fields.{Block}
use Rattle.fx_home.specs.Homes.{home_read}
use Rattle.plain_cat.specs.declared.cat.Cat.{Cat}
use Rattle.plain_cat.specs.declared.script.Script.{Script}
use Rattle.plain_rules.specs.Own.{Whole, Own}
use Rattle.plain_rules.specs.Replaying.{Replays}
use Rattle.vol_parts.specs.declared.finding.Finding.{Finding}
use Rattle.vol_parts.specs.Findings.{home_at, Accepts, CatOf}
use Rattle.vol_faults.specs.Free.{IsGeometryBy}
use Rattle.core_state.specs.Worlds.{Plain}
use Rattle.core_state.specs.Goods.{Good}
use Rattle.core_state.specs.Mounting.{IsMounted}
use Rattle.core_state.specs.Uses.{UsesTheDrives}
use Rattle.core_state.specs.Ends.{AllOver}
use Rattle.run_engine.specs.Ended.{IsSpelt}
use Rattle.node_seat.specs.Steps.{stepped, IsReached}
use Rattle.node_seat.specs.Keeping.{IsOrderly, IsAtFailedWrite}
use Rattle.run_engine.specs.Torn.{CanStop, IsTornWorld}
use Rattle.run_engine.specs.Stops.{report_text}
use Rattle.run_engine.specs.Mendings.{StillMends}
use Rattle.run_engine.specs.Halts.{with_mending, IsMendedBy, IsUnmendedBy}
use Rattle.run_engine.specs.Texts.{cut_text}
use Rattle.live_run.specs.declared.words.Job.{Job}
use Rattle.live_run.specs.declared.words.Job.TheVariants as job

-- ---- the steps of the nodes

-- wherever these steps are cut off, a block that a node uses from its cache in its next turn is the drive's
abbrev pub StepsUseTheDrives : Plain → List ℕ → Type 0
StepsUseTheDrives start ns = (k n : ℕ) → UsesTheDrives (stepped (take k ns) start) n

-- wherever they are cut off, the world can stop: it leaves a catalogue, as which its drive mends
abbrev pub StepsCanStop : Plain → List ℕ → Type 0
StepsCanStop start ns = (k : ℕ) → CanStop (stepped (take k ns) start)

-- A world of a script on the volume of these blocks, in which nothing is found. Steps of its nodes, in some order, have led to it from the
-- volume as it is mounted, with its parts where the home block says: each step is the turn of its node, or the death that the script has
-- in its place. Each block that a turn has used from a cache was the drive's, and each world on the way could stop. The world keeps the
-- rules of the core. Its history begins with the catalogue that the blocks tell and replays from it, and has of each node its commands in
-- their order. Nodes died only where the script kills them, and nothing was mended.
pub record IsWorldOf (script : Script) (bs : List Block) (w : Plain) : Type 0 where
  pub start : Plain
  pub accepted : Accepts bs
  pub mounted : IsMounted bs script start
  pub parts : IsGeometryBy bs (home_read (home_at bs)) start.geometry
  pub reached : IsReached start w
  pub used : StepsUseTheDrives start reached.nodes
  pub stop : StepsCanStop start reached.nodes
  pub told : CatOf bs w.opening
  pub good : Good w
  pub cat : Cat
  pub replayed : Replays w.opening script w.history cat
  pub own : Own script w.history
  pub orderly : IsOrderly script w.history

-- ---- the threads alone

-- The end, with this text: every node of such a world is over, and its history is whole. The image has its drive, which spells the
-- catalogue to which the history leads, with nothing outside at any node. The text is the report.
pub record IsLiveEnd (script : Script) (bs new : List Block) (text : List ℕ) : Type 0 where
  pub world : Plain
  pub live : IsWorldOf script bs world
  pub over : AllOver world
  pub whole : Whole script world.history
  pub after : Cat
  pub replayed : Replays world.opening script world.history after
  pub left : IsSpelt world.geometry world.blocks after
  pub image : new ≡ world.blocks
  pub written : text ≡ report_text world.history after

-- A write failed. The image has the drive of such a world, or, if that block landed, of the one after the write, which has the same
-- answers; it mends as the catalogue that this world leaves as it stops. The text is the lines of the answers so far, and that of the
-- fault.
pub record IsLiveCut (script : Script) (bs new : List Block) (text : List ℕ) : Type 0 where
  pub world : Plain
  pub live : IsWorldOf script bs world
  pub failed : IsAtFailedWrite true (Some new) world
  pub torn : IsTornWorld world failed.node (Some new)
  pub written : text ≡ cut_text world.history

-- the image has the drive of such a world
pub record IsLiveDrive (script : Script) (bs new : List Block) : Type 0 where
  pub world : Plain
  pub live : IsWorldOf script bs world
  pub image : new ≡ world.blocks

-- ---- a mending behind such an end

-- the threads have come to their end, and would have this report
pub record IsLiveOver (script : Script) (bs : List Block) : Type 0 where
  pub at_end : List Block
  pub report : List ℕ
  pub end : IsLiveEnd script bs at_end report

-- The drive of such an end is mended: the history has one entry more, the mending, and replays with it. The image has the mended volume,
-- and the text is the report of that history.
pub record IsLiveMended (script : Script) (bs new : List Block) (text : List ℕ) : Type 0 where
  pub over : IsLiveOver script bs
  pub mended : IsMendedBy over.end.world over.end.after new text
  pub replayed : Replays over.end.world.opening script (with_mending over.end.world.history mended.done) mended.mended.after

-- The mending stopped on its way: what the image has mends to the same; if nothing can be mended, it has the drive.
pub record IsLivePartly (script : Script) (bs new : List Block) : Type 0 where
  pub over : IsLiveOver script bs
  pub still : StillMends over.end.after over.end.world.blocks new

-- A write of the mending failed. The text is the lines of the history, and that of the fault.
pub record IsLiveMendingCut (script : Script) (bs new : List Block) (text : List ℕ) : Type 0 where
  pub partly : IsLivePartly script bs new
  pub written : text ≡ cut_text partly.over.end.world.history

-- The drive cannot be mended. The image has it, and the text is the lines of the history and that of the finding.
pub record IsLiveUnmended (script : Script) (bs new : List Block) (f : Finding) (text : List ℕ) : Type 0 where
  pub over : IsLiveOver script bs
  pub unmended : IsUnmendedBy over.end.world over.end.after new f text

-- ---- of a job

-- it came to its end, with this text
abbrev pub IsEnd : Job → Script → List Block → List Block → List ℕ → Type 0
IsEnd job.Live script bs new text = IsLiveEnd script bs new text
IsEnd job.LiveRebuild script bs new text = IsLiveMended script bs new text

-- a write of the image cut it short, with this text
abbrev pub IsCut : Job → Script → List Block → List Block → List ℕ → Type 0
IsCut job.Live script bs new text = IsLiveCut script bs new text
IsCut job.LiveRebuild script bs new text = IsLiveCut script bs new text ⊎ IsLiveMendingCut script bs new text

-- what the image has as far as it came
abbrev pub IsDriveOn : Job → Script → List Block → List Block → Type 0
IsDriveOn job.Live script bs new = IsLiveDrive script bs new
IsDriveOn job.LiveRebuild script bs new = IsLiveDrive script bs new ⊎ IsLivePartly script bs new

-- what it has if memory was lacking: for a step or for the report; or for the lines of the answers before a write that failed
abbrev pub IsLacking : Job → Script → List Block → List Block → Type 0
IsLacking what script bs new = IsDriveOn what script bs new ⊎ ((text : List ℕ) × IsCut what script bs new text)

-- the drive cannot be mended, by this finding and with this text
abbrev pub IsUnmended : Job → Script → List Block → List Block → Finding → List ℕ → Type 0
IsUnmended job.Live script bs new f text = ⊥
IsUnmended job.LiveRebuild script bs new f text = IsLiveUnmended script bs new f text
