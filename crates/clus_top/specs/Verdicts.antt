-- That of all statuses, but for faults and want of memory, exactly one is due.
use Rattle.std.specs.Prelude.{◌≡◌, ℕ, Bool, true, List, Option, Some}
use Rattle.base_words.specs.Fields.{Block}
use Rattle.blk_drive.specs.Images.{IsInside}
use Rattle.vol_parts.specs.Findings.{Accepts}
use Rattle.run_engine.specs.declared.status.Status.{Status}
use Rattle.run_engine.specs.declared.status.Status.TheVariants as status
use Rattle.clus_top.specs.Words.{Wanted, Run, RunRebuild, Soak}
use Rattle.run_engine.specs.Texts.{IsGood}
use Rattle.run_engine.specs.Verdicts.{is_verdict, is_mended_verdict}
use Rattle.clus_top.specs.Statuses.{IsDue}

-- of a job, a script and blocks one status is due that is no fault and no want of memory, and no other one
pub record HasOneVerdict (wanted : Option Wanted) (bytes : List ℕ) (size : ℕ) (bs : List Block) : Type 0 where
  pub status : Status
  pub verdict : is_verdict status ≡ true
  pub due : IsDue wanted bytes size bs status
  pub alone : (other : Status) → is_verdict other ≡ true → IsDue wanted bytes size bs other → other ≡ status

-- a job that runs a good script: that of the bytes, or one that is drawn
abbrev pub RunsGood : Option Wanted → List ℕ → Type 0
RunsGood (Some Run) bytes = IsGood bytes
RunsGood (Some RunRebuild) bytes = IsGood bytes
RunsGood (Some (Soak n)) bytes = Unit {0}
RunsGood other bytes = ⊥

-- a status that says of such a job neither a fault nor want of memory, nor of a run that is mended then that its volume cannot be mended
abbrev pub is_answer_of : Option Wanted → Status → Bool
is_answer_of (Some RunRebuild) s = is_mended_verdict s
is_answer_of wanted s = is_verdict s

-- on an accepted volume the one such status of such a job is Ok
abbrev pub GoodRunsAreAnswered : Type 0
GoodRunsAreAnswered = (wanted : Option Wanted) (bytes : List ℕ) (size : ℕ) (bs : List Block) (s : Status) → RunsGood wanted bytes → IsInside size → Accepts bs
    → is_answer_of wanted s ≡ true → IsDue wanted bytes size bs s → s ≡ status.Ok

-- ---- of one call

-- of such a status: no other such one is due
abbrev pub IsAlone : Option Wanted → List ℕ → ℕ → List Block → Status → Type 0
IsAlone wanted bytes size bs s = is_verdict s ≡ true
    → (other : Status) → is_verdict other ≡ true → IsDue wanted bytes size bs other → other ≡ s

-- of a job that runs a good script, on an accepted volume, it is Ok
abbrev pub AnswersGood : Option Wanted → List ℕ → ℕ → List Block → Status → Type 0
AnswersGood wanted bytes size bs s = RunsGood wanted bytes → IsInside size → Accepts bs → is_answer_of wanted s ≡ true → s ≡ status.Ok

-- so it is of each status that is due
abbrev pub NoOtherIsDue : Type 0
NoOtherIsDue = (wanted : Option Wanted) (bytes : List ℕ) (size : ℕ) (bs : List Block) (s : Status) → IsDue wanted bytes size bs s → IsAlone wanted bytes size bs s
