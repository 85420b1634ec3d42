-- What a run leaves whose drive is mended once the last node is over.
use Rattle.std.specs.Prelude.{◌≡◌, ℕ, List, Some}
use Rattle.base_words.specs.Fields.{Block}
use Rattle.plain_cat.specs.declared.cat.Cat.{Cat}
use Rattle.plain_cat.specs.declared.script.Script.{Script}
use Rattle.plain_cat.specs.declared.history.Mended.{Mended}
use Rattle.plain_rules.specs.Mending.{mended}
use Rattle.plain_rules.specs.Replaying.{Replays}
use Rattle.vol_parts.specs.declared.finding.Finding.{Finding}
use Rattle.run_engine.specs.Mending.{IsMended}
use Rattle.run_engine.specs.Mendings.{StillMends, IsRoomless}
use Rattle.run_engine.specs.Stops.{report_text}
use Rattle.run_engine.specs.Halts.{with_mending}
use Rattle.clus_top.specs.Runs.{HasRunToEnd}

-- A run has come to its end, and then its drive was mended. The history has one entry more, a mending, and replays with it. The image has
-- an accepted volume, which tells the catalogue to which that of the run is mended.
pub record HasRunAndMended (IsGiven : Script → Type 0) (bs new : List Block) : Type 0 where
  pub before : List Block
  pub ran : HasRunToEnd IsGiven bs before
  pub done : Mended
  pub mended : IsMended ran.after new done
  pub replayed : Replays ran.opening ran.script (with_mending ran.world.history done) mended.after

-- The text is the report of that history, with the free clusters of the mended catalogue.
pub record IsMendedReport (IsGiven : Script → Type 0) (bs new : List Block) (text : List ℕ) : Type 0 where
  pub both : HasRunAndMended IsGiven bs new
  pub written : text ≡ report_text (with_mending both.ran.world.history both.done) both.mended.after

-- A run has come to its end, and the image has blocks that mend to what the catalogue of the run mends to: a mending has begun, or not. If that
-- catalogue cannot be mended, it has the drive of the run.
pub record IsPartlyMended (IsGiven : Script → Type 0) (bs new : List Block) : Type 0 where
  pub before : List Block
  pub ran : HasRunToEnd IsGiven bs before
  pub still : StillMends ran.after ran.world.blocks new

-- on the volume of these blocks a run can come to an end whose catalogue can be mended
pub record IsMendableThen (IsGiven : Script → Type 0) (bs : List Block) : Type 0 where
  pub new : List Block
  pub ran : HasRunToEnd IsGiven bs new
  pub after : Cat
  pub done : Mended
  pub mends : mended ran.after ≡ Some (after, done)

-- A run has come to its end, and its catalogue cannot be mended: [SYSLOST] lacks room for a lost file. The image has the drive of the
-- run, of which this is the first fatal finding.
pub record IsUnmended (IsGiven : Script → Type 0) (bs new : List Block) (f : Finding) : Type 0 where
  pub ran : HasRunToEnd IsGiven bs new
  pub roomless : IsRoomless ran.after ran.world.blocks f

-- On the volume of these blocks a run can come to such an end. All its runs of a script come to one end: so each does, or none.
abbrev pub IsUnmendable : (Script → Type 0) → List Block → Finding → Type 0
IsUnmendable IsGiven bs f = (new : List Block) × IsUnmended IsGiven bs new f
