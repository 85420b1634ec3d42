-- How the steps of a trace end.
use Rattle.std.specs.Prelude.{◌≡◌, ◌++◌, ℕ, List, Some}
use Rattle.base_words.specs.Fields.{Block}
use Rattle.base_words.specs.Faults.{Rose}
use Rattle.blk_drive.specs.Images.{IsInside, IsOutside}
use Rattle.plain_cat.specs.declared.cat.Cat.{Cat}
use Rattle.plain_cat.specs.declared.script.Script.{Script}
use Rattle.vol_parts.specs.declared.finding.Finding.{Finding}
use Rattle.vol_analyze.specs.Judging.{IsFirstFound}
use Rattle.core_state.specs.Worlds.{Plain}
use Rattle.run_engine.specs.declared.status.Status.{Status}
use Rattle.run_engine.specs.declared.status.Status.TheVariants as status
use Rattle.run_engine.specs.declared.over_mending.Halt.{Halt}
use Rattle.run_engine.specs.declared.over_mending.Halt.TheVariants as halt
use Rattle.run_engine.specs.Ended.{HasEnded}
use Rattle.run_engine.specs.Halts.{IsMendedBy, IsUnmendedBy}
use Rattle.run_engine.specs.Scripts.{IsScriptOf}
use Rattle.run_engine.specs.Stops.{report_text}
use Rattle.run_engine.specs.Texts.{IsGood, IsAccepted}
use Rattle.clus_top.specs.Ends.{IsRunEnd}
use Rattle.clus_top.specs.Halts.{IsOverIn}
use Rattle.run_trace.specs.declared.endings.Ending.{Ending}
use Rattle.run_trace.specs.declared.endings.Ending.TheVariants as ending
use Rattle.run_trace.specs.Steps.{walk_text}
use Rattle.run_trace.specs.Traced.{IsTraceOf, IsTracedUnmended, wanted}

-- ---- behind the lines of a walk

-- A world in which every node is over is told so, once its history leads to a catalogue: by its report, or, if its drive is mended, by
-- the report with the mending.
abbrev pub IsEndText : Ending → Plain → Cat → List ℕ → Type 0
IsEndText ending.Report w c text = text ≡ report_text w.history c
IsEndText ending.Mended w c text = (new : List Block) × IsMendedBy w c new text

-- and one whose drive was to be mended, and cannot be
abbrev pub IsRefusalText : Ending → Finding → Plain → Cat → List ℕ → Type 0
IsRefusalText ending.Report f w c text = ⊥
IsRefusalText ending.Mended f w c text = (new : List Block) × IsUnmendedBy w c new f text

-- the text is these lines, and behind them one of which R says that it tells the world
pub record IsBehind (R : Plain → Cat → List ℕ → Type 0) (w : Plain) (lines text : List ℕ) : Type 0 where
  pub after : Cat
  pub ended : HasEnded w after
  pub report : List ℕ
  pub told : R w after report
  pub written : text ≡ lines ++ report

-- why there is no such text of status 0: no call of a copy fails
abbrev pub IsHaltBehind : Ending → Plain → List ℕ → Halt → Type 0
IsHaltBehind e w lines (halt.Cut text) = ⊥
IsHaltBehind e w lines halt.NoLines = ⊥
IsHaltBehind e w lines (halt.Unmended text f) = IsBehind (IsRefusalText e f) w lines text.items
IsHaltBehind e w lines (halt.By s) = s ≡ status.NoMemory

-- lines, and behind them the text that tells this finding, or want of memory
abbrev pub IsRefusedBehind : List ℕ → List ℕ → Finding → Halt → Type 0
IsRefusedBehind lines text f (halt.Unmended all g) = (all.items ≡ lines ++ text) × (g ≡ f)
IsRefusedBehind lines text f (halt.By s) = s ≡ status.NoMemory
IsRefusedBehind lines text f h = ⊥

-- ---- on the blocks of a volume

-- A run of the script on a copy of these blocks has come to its end. The text is the lines of its walk, and behind them one of which R says
-- that it tells this end.
pub record IsTracedIn (R : Plain → Cat → List ℕ → Type 0) (script : Script) (bs : List Block) (text : List ℕ) : Type 0 where
  pub over : IsOverIn script bs
  pub report : List ℕ
  pub told : R over.run.drive.world over.run.left.after report
  pub written : text ≡ walk_text script.plays over.run.walked.turns over.run.drive.ran.start ++ report

-- why blocks gave no trace of status 0
abbrev pub IsEndOf : List Block → Status → Type 0
IsEndOf bs (status.NotAccepted f) = IsFirstFound bs f
IsEndOf bs status.NoMemory = Unit {0}
IsEndOf bs s = ⊥

abbrev pub IsHaltOf : Ending → Script → List Block → Halt → Type 0
IsHaltOf e script bs (halt.Cut text) = ⊥
IsHaltOf e script bs halt.NoLines = ⊥
IsHaltOf e script bs (halt.Unmended text f) = IsTracedIn (IsRefusalText e f) script bs text.items
IsHaltOf e script bs (halt.By s) = IsEndOf bs s

-- ---- on an image

-- why an image gave none
abbrev pub IsImageEndOf : ℕ → List Block → ℕ → ℕ → Status → Type 0
IsImageEndOf size bs had has status.ImageFault = Rose had has
IsImageEndOf size bs had has (status.BadSize n) = (n ≡ size) × IsOutside size
IsImageEndOf size bs had has (status.NotAccepted f) = IsInside size × IsFirstFound bs f
IsImageEndOf size bs had has status.NoMemory = Unit {0}
IsImageEndOf size bs had has s = ⊥

abbrev pub IsImageHaltOf : Ending → Script → ℕ → List Block → ℕ → ℕ → Halt → Type 0
IsImageHaltOf e script size bs had has (halt.Cut text) = ⊥
IsImageHaltOf e script size bs had has halt.NoLines = ⊥
IsImageHaltOf e script size bs had has (halt.Unmended text f) = IsInside size × IsTracedIn (IsRefusalText e f) script bs text.items
IsImageHaltOf e script size bs had has (halt.By s) = IsImageEndOf size bs had has s

-- ---- of the script that is read

-- the trace of the script that these bytes spell
pub record IsTracedOf (e : Ending) (bytes : List ℕ) (size : ℕ) (old new : List Block) (text : List ℕ) : Type 0 where
  pub good : IsGood bytes
  pub accepted : IsAccepted size old
  pub traced : IsTraceOf (Some (wanted e)) bytes old text
  pub left : new ≡ old

-- that of one whose drive cannot be mended
pub record IsRefusedOf (bytes : List ℕ) (size : ℕ) (old new : List Block) (f : Finding) (text : List ℕ) : Type 0 where
  pub good : IsGood bytes
  pub accepted : IsAccepted size old
  pub traced : IsTracedUnmended (IsScriptOf bytes) old f text
  pub left : new ≡ old

-- a run whose drive was not to be mended is not refused so
abbrev pub IsRefused : Ending → List ℕ → ℕ → List Block → List Block → Finding → List ℕ → Type 0
IsRefused ending.Report bytes size old new f text = ⊥
IsRefused ending.Mended bytes size old new f text = IsRefusedOf bytes size old new f text

-- why there is no trace of status 0
abbrev pub IsTraceHalt : Ending → List ℕ → ℕ → List Block → List Block → ℕ → ℕ → ℕ → ℕ → Halt → Type 0
IsTraceHalt e bytes size old new read reading had has (halt.Cut text) = ⊥
IsTraceHalt e bytes size old new read reading had has halt.NoLines = ⊥
IsTraceHalt e bytes size old new read reading had has (halt.Unmended text f) = IsRefused e bytes size old new f text.items
IsTraceHalt e bytes size old new read reading had has (halt.By s) = IsRunEnd bytes size old new read reading had has 0 0 s × (new ≡ old)
