-- Of all statuses of a live call exactly one is due, but for faults and want of memory: that of a run.
use Rattle.std.proofs.Common.{◌≡◌, ℕ, true, List, Option, Some, None, refl}
use Rattle.std.proofs.lemmas.Bool.{false≢true}
use Rattle.base_words.specs.Fields.{Block}
use Rattle.blk_drive.specs.Images.{IsInside}
use Rattle.vol_parts.specs.declared.finding.Finding.{Finding}
use Rattle.vol_parts.specs.Findings.{AreFindings, Accepts}
use Rattle.run_script.specs.Lines.{lines_of}
use Rattle.run_script.specs.Laws.{SayOneThing}
use Rattle.run_engine.specs.declared.status.Status.{Status}
use Rattle.run_engine.specs.declared.status.Status.TheVariants as status
use Rattle.run_engine.specs.Texts.{IsGood, IsWordsDue}
use Rattle.run_engine.specs.Verdicts.{is_verdict, is_mended_verdict, IsRunDue}
use Rattle.run_engine.proofs.Verdicts.{OneList, AloneInRun, alone_good, words_alone, run_verdict, due_alone}
use Rattle.live_run.specs.declared.words.Job.{Job}
use Rattle.live_run.specs.declared.words.Job.TheVariants as job
use Rattle.live_run.specs.Statuses.{IsLiveDue, IsDue}
use Rattle.live_run.specs.Laws.{is_verdict_of, HasOneVerdict}

module _ (bytes : List ℕ) (size : ℕ) (bs : List Block) where
  -- if no other status of a run is due, none of a live call is
  alone_live : (s : Status) → AloneInRun bytes size bs s → (new : List Block) (other : Status) → is_verdict other ≡ true → IsLiveDue job.Live bytes size bs new other → other ≡ s
  alone_live s alone new (status.NotMendable g) v h = absurd h.2.holds.1
  alone_live s alone new other v h = alone other v h

  alone_mended : (s : Status) → AloneInRun bytes size bs s → (new : List Block) (other : Status) → is_mended_verdict other ≡ true → IsLiveDue job.LiveRebuild bytes size bs new other → other ≡ s
  alone_mended s alone new (status.NotMendable g) v h = absurd (false≢true v)
  alone_mended s alone new other v h = alone other v h

  -- and the one that is due of a run is due of a live call
  of_live : (s : Status) → is_verdict s ≡ true → IsRunDue bytes size bs s → AloneInRun bytes size bs s → HasOneVerdict (Some job.Live) bytes size bs
  of_live (status.NotMendable g) v d alone = absurd d
  of_live s v d alone = record { status = s; verdict = v; due = λ new. d; alone = alone_live s alone }

  of_mended : (s : Status) → is_verdict s ≡ true → IsRunDue bytes size bs s → AloneInRun bytes size bs s → HasOneVerdict (Some job.LiveRebuild) bytes size bs
  of_mended (status.NotMendable g) v d alone = absurd d
  of_mended s v d alone = record { status = s; verdict = v; due = λ new. d; alone = alone_mended s alone }

  -- of a live call no other status is due than one that is
  alone_by_run : (new : List Block) (s : Status) → SayOneThing (lines_of bytes) → OneList bs → is_verdict s ≡ true → IsLiveDue job.Live bytes size bs new s
      → (other : Status) → is_verdict other ≡ true → IsLiveDue job.Live bytes size bs new other → other ≡ s
  alone_by_run new (status.NotMendable f) one list v d = absurd d.2.holds.1
  alone_by_run new s one list v d = alone_live s (due_alone bytes size bs s one list v d) new

  alone_by_mended : (new : List Block) (s : Status) → SayOneThing (lines_of bytes) → OneList bs → is_mended_verdict s ≡ true → IsLiveDue job.LiveRebuild bytes size bs new s
      → (other : Status) → is_mended_verdict other ≡ true → IsLiveDue job.LiveRebuild bytes size bs new other → other ≡ s
  alone_by_mended new (status.NotMendable f) one list v d = absurd (false≢true v)
  alone_by_mended new s one list v d = alone_mended s (due_alone bytes size bs s one list v d) new

  of_words : HasOneVerdict None bytes size bs
  of_words = record { status = status.BadWords; verdict = refl; due = λ new. tt; alone = λ new. words_alone }

pub one_verdict : (what : Option Job) (bytes : List ℕ) (size : ℕ) (bs : List Block) (fs : List Finding) → SayOneThing (lines_of bytes) → OneList bs → AreFindings bs fs → HasOneVerdict what bytes size bs
one_verdict None bytes size bs fs one list found = of_words bytes size bs
one_verdict (Some job.Live) bytes size bs fs one list found =
    let r = run_verdict bytes size bs fs one list found in
    of_live bytes size bs r.status r.verdict r.due r.alone
one_verdict (Some job.LiveRebuild) bytes size bs fs one list found =
    let r = run_verdict bytes size bs fs one list found in
    of_mended bytes size bs r.status r.verdict r.due r.alone

pub answered : (what : Job) (bytes : List ℕ) (size : ℕ) (bs : List Block) (new : List Block) (s : Status) → SayOneThing (lines_of bytes) → OneList bs → IsGood bytes → IsInside size → Accepts bs
    → is_verdict_of (Some what) s ≡ true → IsDue (Some what) bytes size bs new s → s ≡ status.Ok
answered job.Live bytes size bs new s one list good inside none v h = alone_live bytes size bs status.Ok (alone_good bytes size bs one list good inside none) new s v h
answered job.LiveRebuild bytes size bs new s one list good inside none v h = alone_mended bytes size bs status.Ok (alone_good bytes size bs one list good inside none) new s v h

alone_words : (s : Status) → is_verdict s ≡ true → IsWordsDue s → (other : Status) → is_verdict other ≡ true → IsWordsDue other → other ≡ s
alone_words status.BadWords v d = words_alone
alone_words status.NoMemory v d = absurd (false≢true v)
alone_words s v d = absurd d

pub no_other : (what : Option Job) (bytes : List ℕ) (size : ℕ) (old new : List Block) (s : Status) → SayOneThing (lines_of bytes) → OneList old → is_verdict_of what s ≡ true → IsDue what bytes size old new s
    → (other : Status) → is_verdict_of what other ≡ true → IsDue what bytes size old new other → other ≡ s
no_other None bytes size old new s one list v d = alone_words s v d
no_other (Some job.Live) bytes size old new s one list v d = alone_by_run bytes size old new s one list v d
no_other (Some job.LiveRebuild) bytes size old new s one list v d = alone_by_mended bytes size old new s one list v d
