-- What a trace of a run is, and what a call of the program answers.
use Rattle.std.specs.Prelude.{◌≡◌, ◌++◌, ℕ, List, [], ◌∷◌, Option, Some, None, codes, if◌then◌else◌}
use Rattle.std.specs.Str.{bytes_eq}
use Rattle.base_words.specs.Fields.{Block}
use Rattle.base_words.specs.Faults.{Rose}
use Rattle.plain_cat.specs.declared.script.Script.{Script}
use Rattle.vol_parts.specs.declared.finding.Finding.{Finding}
use Rattle.run_engine.specs.Calls.{Given}
use Rattle.run_engine.specs.Inputs.{OfScript, OfImage}
use Rattle.run_engine.specs.Scripts.{IsScriptOf}
use Rattle.run_engine.specs.Statuses.{status_code}
use Rattle.run_engine.specs.Stops.{report_text}
use Rattle.run_engine.specs.Texts.{IsPlainText, Writes}
use Rattle.run_engine.specs.declared.status.Status.{Status}
use Rattle.run_engine.specs.declared.status.Status.TheVariants as ended
use Rattle.clus_top.specs.Images.{IsUnmendedText}
use Rattle.clus_top.specs.MendedRuns.{IsMendedReport}
use Rattle.clus_top.specs.Words.{Wanted, Run, RunRebuild}
use Rattle.clus_top.specs.Runs.{HasRunToEnd}
use Rattle.clus_top.specs.Statuses.{IsDue}
use Rattle.clus_top.specs.Verdicts.{IsAlone, AnswersGood}
use Rattle.run_trace.specs.declared.endings.Ending.{Ending}
use Rattle.run_trace.specs.declared.endings.Ending.TheVariants as ending
use Rattle.run_trace.specs.Steps.{walk_text}

-- ---- the text of a trace

-- The text is the trace of a run: the lines of the walk that leads from the volume as it is mounted to the world in which every node is
-- over, and behind them the report of this very run.
pub record IsTraced (IsGiven : Script → Type 0) (bs : List Block) (text : List ℕ) : Type 0 where
  -- what the run would leave on an image: it is written nowhere
  pub end : List Block
  pub ran : HasRunToEnd IsGiven bs end
  pub written : text ≡ walk_text ran.script.plays ran.walked.turns ran.start ++ report_text ran.world.history ran.after

-- The text is the trace of a run whose drive is mended then: the lines of the walk of a run, and behind them the report of this very run
-- and of its mending, as `run --rebuild` prints it.
pub record IsTracedMended (IsGiven : Script → Type 0) (bs : List Block) (text : List ℕ) : Type 0 where
  pub end : List Block
  pub report : List ℕ
  pub mended : IsMendedReport IsGiven bs end report
  pub written : text ≡ walk_text mended.both.ran.script.plays mended.both.ran.walked.turns mended.both.ran.start ++ report

-- and of one whose drive cannot be mended, with the text by which `run --rebuild` says so of this very run
pub record IsTracedUnmended (IsGiven : Script → Type 0) (bs : List Block) (f : Finding) (text : List ℕ) : Type 0 where
  pub end : List Block
  pub refusal : List ℕ
  pub unmended : IsUnmendedText IsGiven bs end f refusal
  pub written : text ≡ walk_text unmended.unmended.ran.script.plays unmended.unmended.ran.walked.turns unmended.unmended.ran.start ++ refusal

-- ---- the words

-- the job of `vmsclus` that is traced
abbrev pub wanted : Ending → Wanted
wanted ending.Report = Run
wanted ending.Mended = RunRebuild

-- No word asks for the trace of `run`, and `--rebuild` for that of `run --rebuild`.
unfoldable pub wanted_by : List (List ℕ) → Option Wanted
wanted_by [] = Some Run
wanted_by (word ∷ []) = if bytes_eq word (codes "--rebuild") then Some RunRebuild else None
wanted_by (word ∷ more ∷ words) = None

-- ---- a call

-- the text of status 0
abbrev pub IsTraceOf : Option Wanted → List ℕ → List Block → List ℕ → Type 0
IsTraceOf (Some Run) bytes bs text = IsTraced (IsScriptOf bytes) bs text
IsTraceOf (Some RunRebuild) bytes bs text = IsTracedMended (IsScriptOf bytes) bs text
IsTraceOf other bytes bs text = ⊥

-- the text of a fault of the image, and of a volume that cannot be mended
abbrev pub IsMendedFaultText : List ℕ → List Block → Status → List ℕ → Type 0
IsMendedFaultText bytes bs (ended.NotMendable f) text = IsTracedUnmended (IsScriptOf bytes) bs f text
IsMendedFaultText bytes bs s text = IsPlainText s text

abbrev pub IsFaultTextOf : Option Wanted → List ℕ → List Block → Status → List ℕ → Type 0
IsFaultTextOf (Some RunRebuild) bytes bs s text = IsMendedFaultText bytes bs s text
IsFaultTextOf other bytes bs s text = IsPlainText s text

-- What a call answers. The status is due exactly as that of `run`, or of `run --rebuild`; a fault comes only if the count of that very object
-- rose. With status 0 the trace was written, with a fault of the sink first bytes of it, and else the text of the status, of a drive that
-- cannot be mended behind the lines of the run. The image has the blocks that it had.
pub record IsTraceAnswer (wanted : Option Wanted) (bytes : List ℕ) (size : ℕ) (old new : List Block) (was now : Option (List ℕ)) (read reading had has before after : ℕ) (s : Status) : Type 0 where
  pub due : IsDue wanted bytes size old s
  pub script_fault : s ≡ ended.ScriptFault → Rose read reading
  pub image_fault : s ≡ ended.ImageFault → Rose had has
  pub out_fault : s ≡ ended.OutFault → Rose before after
  pub written : Writes (IsTraceOf wanted bytes old) (IsFaultTextOf wanted bytes old) old was now before after s
  pub left : new ≡ old

-- and that of the statuses but for faults and want of memory no other one is due, so that a good script on an accepted volume is traced
pub record IsTraceCall (wanted : Option Wanted) (bytes : List ℕ) (size : ℕ) (old new : List Block) (was now : Option (List ℕ)) (read reading had has before after : ℕ) (s : Status) : Type 0 where
  pub answer : IsTraceAnswer wanted bytes size old new was now read reading had has before after s
  pub alone : IsAlone wanted bytes size old s
  pub answered : AnswersGood wanted bytes size old s

-- A call of the program ends with a status, and the number is that of the status. The rest is what the top call answers.
pub record IsTraceEnd (g : Given) (written : Option (List ℕ)) (image : Option (List Block)) (script_faults image_faults out_faults number : ℕ) : Type 0 where
  pub status : Status
  pub number_is : number ≡ status_code status
  pub call : OfScript g.left (λ bytes. OfImage g.size g.told image (λ old new.
      IsTraceCall (wanted_by g.words) bytes g.size old new g.written written g.script_faults script_faults g.image_faults image_faults g.out_faults out_faults status))
