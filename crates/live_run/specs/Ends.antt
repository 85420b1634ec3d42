-- How the steps of a live call end.
use Rattle.std.specs.Prelude.{◌≡◌, ◌⊎◌, ℕ, List, Option, Result, Ok, Err}
use Rattle.base_words.specs.Fields.{Block}
use Rattle.base_words.specs.Faults.{Rose}
use Rattle.plain_cat.specs.declared.cat.Cat.{Cat}
use Rattle.plain_cat.specs.declared.script.Script.{Script}
use Rattle.vol_parts.specs.Findings.{Accepts}
use Rattle.vol_analyze.specs.Judging.{IsFirstFound}
use Rattle.core_state.specs.Worlds.{Plain}
use Rattle.run_engine.specs.Ended.{HasEnded}
use Rattle.run_engine.specs.declared.fault.RunFault.{RunFault}
use Rattle.run_engine.specs.declared.status.Status.{Status}
use Rattle.run_engine.specs.declared.status.Status.TheVariants as status
use Rattle.run_engine.specs.declared.stop.Stop.{Stop}
use Rattle.run_engine.specs.declared.over_mending.Halt.{Halt}
use Rattle.run_engine.specs.declared.over_mending.Halt.TheVariants as halt
use Rattle.run_engine.specs.Stops.{report_text, IsStopOf}
use Rattle.run_engine.specs.Inputs.{Leaves}
use Rattle.run_engine.specs.Halts.{halt_of, IsMendedBy, IsHaltBy}
use Rattle.live_run.specs.declared.words.Job.{Job}
use Rattle.live_run.specs.declared.words.Job.TheVariants as job
use Rattle.live_run.specs.Lives.{IsCut, IsLacking, IsUnmended}

-- ---- the run after the threads

-- a world in which every node is over is told with this text, and the image has this then
abbrev pub IsToldOver : Job → Plain → Option (List Block) → Option (List Block) → List ℕ → Type 0
IsToldOver job.Live w told new text = (new ≡ told) × ((c : Cat) × HasEnded w c × (text ≡ report_text w.history c))
IsToldOver job.LiveRebuild w told new text = (c : Cat) → HasEnded w c → Leaves told new (λ bs. IsMendedBy w c bs text)

-- or why it has no text
abbrev pub IsHaltOver : Job → Plain → Option (List Block) → Option (List Block) → ℕ → ℕ → Halt → Type 0
IsHaltOver job.Live w told new had has h = (new ≡ told) × (h ≡ halt.By status.NoMemory)
IsHaltOver job.LiveRebuild w told new had has h = (c : Cat) → HasEnded w c → Leaves told new (λ bs. IsHaltBy w c bs had has h)

-- how the run after the threads is told, with its text or with why there is none
abbrev pub IsToldEnd : {A : Type 0} → Job → Plain → Result A RunFault → Option (List Block) → Option (List Block) → List ℕ → Type 0
IsToldEnd what w (Ok a) told new text = IsToldOver what w told new text
IsToldEnd what w (Err f) told new text = ⊥

abbrev pub IsHaltAfter : {A : Type 0} → Job → Plain → Result A RunFault → Option (List Block) → Option (List Block) → ℕ → ℕ → Halt → Type 0
IsHaltAfter what w (Ok a) told new had has h = IsHaltOver what w told new had has h
IsHaltAfter what w (Err f) told new had has h = (new ≡ told) × (has ≡ had) × ((s : Stop) × (h ≡ halt_of s) × IsStopOf w f s)

-- ---- on the blocks of a volume

-- Why there is no end, but for a write that failed and a drive that cannot be mended, and what the image has then.
abbrev pub IsQuiet : Job → Script → List Block → List Block → Status → Type 0
IsQuiet what script bs new (status.NotAccepted f) = IsFirstFound bs f × (new ≡ bs)
IsQuiet what script bs new status.NoMemory = (new ≡ bs) ⊎ IsLacking what script bs new
IsQuiet what script bs new s = ⊥

-- why there is none
abbrev pub IsHalt : Job → Script → List Block → List Block → ℕ → ℕ → Halt → Type 0
IsHalt what script bs new had has (halt.Cut text) = Rose had has × IsCut what script bs new text.items
IsHalt what script bs new had has halt.NoLines = Rose had has × ((text : List ℕ) × IsCut what script bs new text)
IsHalt what script bs new had has (halt.Unmended text f) = Accepts bs × IsUnmended what script bs new f text.items
IsHalt what script bs new had has (halt.By s) = IsQuiet what script bs new s
