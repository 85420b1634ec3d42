-- Of the statuses of a live call, but for faults, want of memory and NotMendable of one that mends, exactly one is due, and a good script
-- on an accepted volume is answered.
use Rattle.std.specs.Prelude.{◌≡◌, ℕ, Bool, true, List, Option, Some, None}
use Rattle.base_words.specs.Fields.{Block}
use Rattle.blk_drive.specs.Images.{IsInside}
use Rattle.vol_parts.specs.Findings.{Accepts}
use Rattle.run_engine.specs.declared.status.Status.{Status}
use Rattle.run_engine.specs.declared.status.Status.TheVariants as status
use Rattle.run_engine.specs.Texts.{IsGood}
use Rattle.run_engine.specs.Verdicts.{is_verdict, is_mended_verdict}
use Rattle.live_run.specs.declared.words.Job.{Job}
use Rattle.live_run.specs.declared.words.Job.TheVariants as job
use Rattle.live_run.specs.Statuses.{IsDue}

-- of a job, a status that speaks of what came in alone; with a mending also not the one that speaks of where the threads have led
abbrev pub is_verdict_of : Option Job → Status → Bool
is_verdict_of (Some job.LiveRebuild) s = is_mended_verdict s
is_verdict_of what s = is_verdict s

-- of a job, a script and blocks one such status is due, and no other one, whatever the image has then
pub record HasOneVerdict (what : Option Job) (bytes : List ℕ) (size : ℕ) (bs : List Block) : Type 0 where
  pub status : Status
  pub verdict : is_verdict_of what status ≡ true
  pub due : (new : List Block) → IsDue what bytes size bs new status
  pub alone : (new : List Block) (other : Status) → is_verdict_of what other ≡ true → IsDue what bytes size bs new other → other ≡ status

abbrev pub OneLiveStatusIsDue : Type 0
OneLiveStatusIsDue = (what : Option Job) (bytes : List ℕ) (size : ℕ) (bs : List Block) → HasOneVerdict what bytes size bs

-- on an accepted volume the one such status of a good script is Ok
abbrev pub GoodLiveRunsAreAnswered : Type 0
GoodLiveRunsAreAnswered = (what : Job) (bytes : List ℕ) (size : ℕ) (bs : List Block) (new : List Block) (s : Status) → IsGood bytes → IsInside size → Accepts bs
    → is_verdict_of (Some what) s ≡ true → IsDue (Some what) bytes size bs new s → s ≡ status.Ok

-- ---- of one call

-- of such a status: no other such one is due
abbrev pub IsAlone : Option Job → List ℕ → ℕ → List Block → List Block → Status → Type 0
IsAlone what bytes size old new s = is_verdict_of what s ≡ true
    → (other : Status) → is_verdict_of what other ≡ true → IsDue what bytes size old new other → other ≡ s

-- such a status of a good script on an accepted volume is Ok
abbrev pub AnswersGood : Option Job → List ℕ → ℕ → List Block → Status → Type 0
AnswersGood None bytes size bs s = Unit {0}
AnswersGood (Some what) bytes size bs s = IsGood bytes → IsInside size → Accepts bs → is_verdict_of (Some what) s ≡ true → s ≡ status.Ok

-- so it is of each status that is due
abbrev pub NoOtherLiveIsDue : Type 0
NoOtherLiveIsDue = (what : Option Job) (bytes : List ℕ) (size : ℕ) (old new : List Block) (s : Status) → IsDue what bytes size old new s → IsAlone what bytes size old new s
