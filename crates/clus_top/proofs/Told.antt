-- What a job answers, by how it is told.
use Rattle.std.proofs.Common.{◌≡◌, ◌∙◌, ◌⊎◌, ℕ, true, false, List, [], ◌∷◌, Option, Some, None, refl, sym, subst, inl, inr}
use Rattle.std.proofs.lemmas.Bool.{false≢true}
use Rattle.std.specs.Io.KnownBytes.{Appends}
use Rattle.base_words.specs.Fields.{Block}
use Rattle.base_words.specs.Faults.{Rose}
use Rattle.fx_text.specs.Streams.{AppendsStart}
use Rattle.fx_text.specs.Written.{IsWritten}
use Rattle.blk_drive.specs.Images.{IsInside}
use Rattle.vol_parts.specs.declared.finding.Finding.{Finding}
use Rattle.vol_parts.specs.Findings.{AreFindings}
use Rattle.run_engine.specs.declared.status.Status.{Status}
use Rattle.run_engine.specs.declared.status.Status.TheVariants as status
use Rattle.run_engine.specs.declared.stop.Stop.{Stop}
use Rattle.run_engine.specs.declared.stop.Stop.TheVariants as stop
use Rattle.run_engine.specs.declared.over_mending.Halt.{Halt}
use Rattle.run_engine.specs.declared.over_mending.Halt.TheVariants as halt
use Rattle.run_engine.specs.Halts.{halt_of, IsToldHalt}
use Rattle.run_engine.specs.Scripts.{IsScriptOf}
use Rattle.clus_top.specs.MendedRuns.{IsMendableThen, IsPartlyMended}
use Rattle.run_engine.specs.Texts.{status_text, IsPlainText, Writes}
use Rattle.run_engine.specs.Verdicts.{is_verdict}
use Rattle.clus_top.specs.Words.{Wanted, Run, RunRebuild, Soak, Analyze, Rebuild, Repair, Records, Store, Init}
use Rattle.clus_top.specs.Calls.{IsAnswer, IsCall}
use Rattle.clus_top.specs.Repairs.{IsStillToRepair, IsRepairedWith, IsRepairEnd}
use Rattle.clus_top.proofs.Repairing.{still_same}
use Rattle.clus_top.specs.Ends.{IsReported, IsSummarized, IsRunEnd, IsRunStop, IsSoakEnd, IsSoakStop, IsFoundEnd, IsLoadEnd, IsInitEnd, IsFormattedWith, IsRebuiltWith, IsRebuildEnd, IsRecordsOn, IsRecordsEnd}
use Rattle.clus_top.specs.Halts.{IsMendedWith, IsRunHalt}
use Rattle.clus_top.specs.Images.{IsFaultTextOf, IsImageAfter, IsFormatted, IsCutOf, IsCutShort, IsMendingCutShort}
use Rattle.clus_top.specs.Mendings.{IsStillToMend}
use Rattle.clus_top.specs.Statuses.{accepted_text, IsDue, IsTextOf}
use Rattle.clus_top.specs.Stores.{IsStoredOf, IsStoreEnd}
use Rattle.clus_top.proofs.Analyzed.{found_due}
use Rattle.clus_top.proofs.Halting.{rest}
use Rattle.clus_top.proofs.Lacking.{lacking_due, lacking_image, no_verdict}
use Rattle.vol_init.specs.Refusals.{home_of}

-- what a status says of a job that gave no text, and whose text says all; the image may have been left so where memory runs out for it
pub record IsQuiet (wanted : Option Wanted) (bytes : List ℕ) (size : ℕ) (old new : List Block) (read reading had has lost losing : ℕ) (s : Status) : Type 0 where
  pub due : IsDue wanted bytes size old s
  pub script_fault : s ≡ status.ScriptFault → Rose read reading
  pub image_fault : s ≡ status.ImageFault → Rose had has
  pub out_fault : s ≡ status.OutFault → ⊥
  pub written : (was now : Option (List ℕ)) (before after : ℕ) → IsWritten was now before after (status_text s)
      → Writes (IsTextOf wanted bytes size old new) (IsFaultTextOf wanted bytes lost losing old new) old was now before after s
  pub left : IsImageAfter wanted bytes had has old new s
  pub lacking : IsImageAfter wanted bytes had has old new status.NoMemory

not_this : (s other : Status) → is_verdict s ≡ true → is_verdict other ≡ false → s ≡ other → ⊥
not_this s other v n e = false≢true (sym n ∙ subst (λ (x : Status). is_verdict x ≡ true) e v)

module _ (wanted : Option Wanted) (bytes : List ℕ) (size : ℕ) (old new : List Block) (read reading had has lost losing : ℕ) where
  -- a status that speaks of what came in alone
  verdict : (s : Status) → is_verdict s ≡ true → IsDue wanted bytes size old s
      → ((was now : Option (List ℕ)) (before after : ℕ) → IsWritten was now before after (status_text s) → Writes (IsTextOf wanted bytes size old new) (IsFaultTextOf wanted bytes lost losing old new) old was now before after s)
      → IsImageAfter wanted bytes had has old new s → IsImageAfter wanted bytes had has old new status.NoMemory → IsQuiet wanted bytes size old new read reading had has lost losing s
  verdict s v due written left lacking = record {
    due = due;
    script_fault = λ e. absurd (not_this s status.ScriptFault v refl e);
    image_fault = λ e. absurd (not_this s status.ImageFault v refl e);
    out_fault = λ e. not_this s status.OutFault v refl e;
    written = written;
    left = left;
    lacking = lacking;
  }

  script_fault : Rose read reading → IsDue wanted bytes size old status.ScriptFault → IsImageAfter wanted bytes had has old new status.ScriptFault → IsImageAfter wanted bytes had has old new status.NoMemory
      → IsQuiet wanted bytes size old new read reading had has lost losing status.ScriptFault
  script_fault rose due left lacking = record {
    due = due;
    script_fault = λ e. rose;
    image_fault = λ e. absurd (let f : status.ScriptFault ≡ status.ImageFault = e in cc);
    out_fault = λ e. let f : status.ScriptFault ≡ status.OutFault = e in cc;
    written = λ was now before after w. w;
    left = left;
    lacking = lacking;
  }

  image_fault : Rose had has → IsDue wanted bytes size old status.ImageFault → IsFaultTextOf wanted bytes lost losing old new status.ImageFault (status_text status.ImageFault) → IsImageAfter wanted bytes had has old new status.ImageFault
      → IsImageAfter wanted bytes had has old new status.NoMemory → IsQuiet wanted bytes size old new read reading had has lost losing status.ImageFault
  image_fault rose due text left lacking = record {
    due = due;
    script_fault = λ e. absurd (let f : status.ImageFault ≡ status.ScriptFault = e in cc);
    image_fault = λ e. rose;
    out_fault = λ e. let f : status.ImageFault ≡ status.OutFault = e in cc;
    written = λ was now before after w. (status_text status.ImageFault, text, w);
    left = left;
    lacking = lacking;
  }

  no_memory : IsImageAfter wanted bytes had has old new status.NoMemory → IsQuiet wanted bytes size old new read reading had has lost losing status.NoMemory
  no_memory left = record {
    due = lacking_due wanted bytes size old;
    script_fault = λ e. absurd (let f : status.NoMemory ≡ status.ScriptFault = e in cc);
    image_fault = λ e. absurd (let f : status.NoMemory ≡ status.ImageFault = e in cc);
    out_fault = λ e. let f : status.NoMemory ≡ status.OutFault = e in cc;
    written = λ was now before after w. w;
    left = left;
    lacking = left;
  }

-- ---- which statuses are quiet

bad_words : (bytes : List ℕ) (size : ℕ) (bs : List Block) (read reading had has lost losing : ℕ) → IsQuiet None bytes size bs bs read reading had has lost losing status.BadWords
bad_words bytes size bs read reading had has lost losing = verdict None bytes size bs bs read reading had has lost losing status.BadWords refl tt (λ was now before after w. w) refl refl

quiet_run : (bytes : List ℕ) (size : ℕ) (old new : List Block) (read reading had has lost losing : ℕ) (s : Status) → IsRunEnd bytes size old new read reading had has lost losing s → IsQuiet (Some Run) bytes size old new read reading had has lost losing s
quiet_run bytes size old new read reading had has lost losing status.ScriptFault h = script_fault (Some Run) bytes size old new read reading had has lost losing h.0 tt h.1 (inl h.1)
quiet_run bytes size old new read reading had has lost losing status.ScriptTooLong h = verdict (Some Run) bytes size old new read reading had has lost losing status.ScriptTooLong refl h.0 (λ was now before after w. w) h.1 (inl h.1)
quiet_run bytes size old new read reading had has lost losing (status.BadScript n) h = verdict (Some Run) bytes size old new read reading had has lost losing (status.BadScript n) refl h.0 (λ was now before after w. w) h.1 (inl h.1)
quiet_run bytes size old new read reading had has lost losing status.TooMany h = verdict (Some Run) bytes size old new read reading had has lost losing status.TooMany refl h.0 (λ was now before after w. w) h.1 (inl h.1)
quiet_run bytes size old new read reading had has lost losing status.ImageFault h = image_fault (Some Run) bytes size old new read reading had has lost losing h.1 h.0 (inl (h.2, h.3, refl)) (inl h.2) (inl h.2)
quiet_run bytes size old new read reading had has lost losing (status.BadSize n) h = verdict (Some Run) bytes size old new read reading had has lost losing (status.BadSize n) refl h.0 (λ was now before after w. w) h.1 (inl h.1)
quiet_run bytes size old new read reading had has lost losing (status.NotAccepted f) h = verdict (Some Run) bytes size old new read reading had has lost losing (status.NotAccepted f) refl h.0 (λ was now before after w. w) h.1 (inl h.1)
quiet_run bytes size old new read reading had has lost losing status.NoMemory (inl e) = no_memory (Some Run) bytes size old new read reading had has lost losing (inl e)
quiet_run bytes size old new read reading had has lost losing status.NoMemory (inr d) = no_memory (Some Run) bytes size old new read reading had has lost losing (inr (inl d))
quiet_run bytes size old new read reading had has lost losing s h = absurd h

quiet_run_rebuild : (bytes : List ℕ) (size : ℕ) (old new : List Block) (read reading had has lost losing : ℕ) (s : Status) → IsRunEnd bytes size old new read reading had has lost losing s → IsQuiet (Some RunRebuild) bytes size old new read reading had has lost losing s
quiet_run_rebuild bytes size old new read reading had has lost losing status.ScriptFault h = script_fault (Some RunRebuild) bytes size old new read reading had has lost losing h.0 tt h.1 (inl h.1)
quiet_run_rebuild bytes size old new read reading had has lost losing status.ScriptTooLong h = verdict (Some RunRebuild) bytes size old new read reading had has lost losing status.ScriptTooLong refl h.0 (λ was now before after w. w) h.1 (inl h.1)
quiet_run_rebuild bytes size old new read reading had has lost losing (status.BadScript n) h = verdict (Some RunRebuild) bytes size old new read reading had has lost losing (status.BadScript n) refl h.0 (λ was now before after w. w) h.1 (inl h.1)
quiet_run_rebuild bytes size old new read reading had has lost losing status.TooMany h = verdict (Some RunRebuild) bytes size old new read reading had has lost losing status.TooMany refl h.0 (λ was now before after w. w) h.1 (inl h.1)
quiet_run_rebuild bytes size old new read reading had has lost losing status.ImageFault h = image_fault (Some RunRebuild) bytes size old new read reading had has lost losing h.1 h.0 (inl (h.2, h.3, refl)) (inl h.2) (inl h.2)
quiet_run_rebuild bytes size old new read reading had has lost losing (status.BadSize n) h = verdict (Some RunRebuild) bytes size old new read reading had has lost losing (status.BadSize n) refl h.0 (λ was now before after w. w) h.1 (inl h.1)
quiet_run_rebuild bytes size old new read reading had has lost losing (status.NotAccepted f) h = verdict (Some RunRebuild) bytes size old new read reading had has lost losing (status.NotAccepted f) refl h.0 (λ was now before after w. w) h.1 (inl h.1)
quiet_run_rebuild bytes size old new read reading had has lost losing status.NoMemory (inl e) = no_memory (Some RunRebuild) bytes size old new read reading had has lost losing (inl e)
quiet_run_rebuild bytes size old new read reading had has lost losing status.NoMemory (inr d) = no_memory (Some RunRebuild) bytes size old new read reading had has lost losing (inr (inl d))
quiet_run_rebuild bytes size old new read reading had has lost losing s h = absurd h

quiet_soak : (n : ℕ) (bytes : List ℕ) (size : ℕ) (old new : List Block) (read reading had has lost losing : ℕ) (s : Status) → IsSoakEnd n size old new had has lost losing s → IsQuiet (Some (Soak n)) bytes size old new read reading had has lost losing s
quiet_soak n bytes size old new read reading had has lost losing status.ImageFault h = image_fault (Some (Soak n)) bytes size old new read reading had has lost losing h.0 tt (inl (h.1, h.2, refl)) (inl h.1) (inl h.1)
quiet_soak n bytes size old new read reading had has lost losing (status.BadSize k) h = verdict (Some (Soak n)) bytes size old new read reading had has lost losing (status.BadSize k) refl h.0 (λ was now before after w. w) h.1 (inl h.1)
quiet_soak n bytes size old new read reading had has lost losing (status.NotAccepted f) h = verdict (Some (Soak n)) bytes size old new read reading had has lost losing (status.NotAccepted f) refl h.0 (λ was now before after w. w) h.1 (inl h.1)
quiet_soak n bytes size old new read reading had has lost losing status.NoMemory (inl e) = no_memory (Some (Soak n)) bytes size old new read reading had has lost losing (inl e)
quiet_soak n bytes size old new read reading had has lost losing status.NoMemory (inr d) = no_memory (Some (Soak n)) bytes size old new read reading had has lost losing (inr (inl d))
quiet_soak n bytes size old new read reading had has lost losing s h = absurd h

quiet_analysis : (bytes : List ℕ) (size : ℕ) (bs : List Block) (read reading had has lost losing : ℕ) (s : Status) → IsLoadEnd size had has s → IsQuiet (Some Analyze) bytes size bs bs read reading had has lost losing s
quiet_analysis bytes size bs read reading had has lost losing status.ImageFault h = image_fault (Some Analyze) bytes size bs bs read reading had has lost losing h tt refl refl refl
quiet_analysis bytes size bs read reading had has lost losing (status.BadSize n) h = verdict (Some Analyze) bytes size bs bs read reading had has lost losing (status.BadSize n) refl h (λ was now before after w. w) refl refl
quiet_analysis bytes size bs read reading had has lost losing status.NoMemory h = no_memory (Some Analyze) bytes size bs bs read reading had has lost losing refl
quiet_analysis bytes size bs read reading had has lost losing s h = absurd h

unmended_stays : (old new : List Block) → new ≡ old → IsStillToMend old new
unmended_stays old new e = subst (IsStillToMend old) (sym e) (record { mends = λ z h. h; kept = λ f h. refl })

quiet_rebuild : (bytes : List ℕ) (size : ℕ) (old new : List Block) (read reading had has lost losing : ℕ) (s : Status) → IsRebuildEnd size old new had has s → IsQuiet (Some Rebuild) bytes size old new read reading had has lost losing s
quiet_rebuild bytes size old new read reading had has lost losing status.ImageFault h = image_fault (Some Rebuild) bytes size old new read reading had has lost losing h.0 tt refl h.1 h.1
quiet_rebuild bytes size old new read reading had has lost losing (status.BadSize n) h = verdict (Some Rebuild) bytes size old new read reading had has lost losing (status.BadSize n) refl h.0 (λ was now before after w. w) h.1 (unmended_stays old new h.1)
quiet_rebuild bytes size old new read reading had has lost losing (status.NotMendable f) h =
    verdict (Some Rebuild) bytes size old new read reading had has lost losing (status.NotMendable f) refl h.0 (λ was now before after w. (status_text (status.NotMendable f), refl, w)) h.1 (unmended_stays old new h.1)
quiet_rebuild bytes size old new read reading had has lost losing status.NoMemory h = no_memory (Some Rebuild) bytes size old new read reading had has lost losing h
quiet_rebuild bytes size old new read reading had has lost losing s h = absurd h

repair_stays : (old new : List Block) → new ≡ old → IsStillToRepair old new
repair_stays old new e = subst (IsStillToRepair old) (sym e) (still_same old)

quiet_repair : (bytes : List ℕ) (size : ℕ) (old new : List Block) (read reading had has lost losing : ℕ) (s : Status) → IsRepairEnd size old new had has s → IsQuiet (Some Repair) bytes size old new read reading had has lost losing s
quiet_repair bytes size old new read reading had has lost losing status.ImageFault h = image_fault (Some Repair) bytes size old new read reading had has lost losing h.0 tt refl h.1 h.1
quiet_repair bytes size old new read reading had has lost losing (status.BadSize n) h = verdict (Some Repair) bytes size old new read reading had has lost losing (status.BadSize n) refl h.0 (λ was now before after w. w) h.1 (repair_stays old new h.1)
quiet_repair bytes size old new read reading had has lost losing (status.NotRepairable f) h =
    verdict (Some Repair) bytes size old new read reading had has lost losing (status.NotRepairable f) refl h.0 (λ was now before after w. w) h.1 (repair_stays old new h.1)
quiet_repair bytes size old new read reading had has lost losing (status.RepairNoRoom f) h =
    verdict (Some Repair) bytes size old new read reading had has lost losing (status.RepairNoRoom f) refl h.0 (λ was now before after w. w) (h.1, h.2.keeps) h.2
quiet_repair bytes size old new read reading had has lost losing status.NoMemory h = no_memory (Some Repair) bytes size old new read reading had has lost losing h
quiet_repair bytes size old new read reading had has lost losing s h = absurd h

quiet_records : (n seq : ℕ) (bytes : List ℕ) (size : ℕ) (bs : List Block) (read reading had has lost losing : ℕ) (s : Status) → IsRecordsEnd n seq size bs had has s → IsQuiet (Some (Records n seq)) bytes size bs bs read reading had has lost losing s
quiet_records n seq bytes size bs read reading had has lost losing status.ImageFault h = image_fault (Some (Records n seq)) bytes size bs bs read reading had has lost losing h tt refl refl refl
quiet_records n seq bytes size bs read reading had has lost losing (status.BadSize k) h = verdict (Some (Records n seq)) bytes size bs bs read reading had has lost losing (status.BadSize k) refl h (λ was now before after w. w) refl refl
quiet_records n seq bytes size bs read reading had has lost losing (status.NotAccepted f) h = verdict (Some (Records n seq)) bytes size bs bs read reading had has lost losing (status.NotAccepted f) refl h (λ was now before after w. w) refl refl
quiet_records n seq bytes size bs read reading had has lost losing status.NoFile h = verdict (Some (Records n seq)) bytes size bs bs read reading had has lost losing status.NoFile refl h (λ was now before after w. w) refl refl
quiet_records n seq bytes size bs read reading had has lost losing (status.BadRecord at) h = verdict (Some (Records n seq)) bytes size bs bs read reading had has lost losing (status.BadRecord at) refl h (λ was now before after w. w) refl refl
quiet_records n seq bytes size bs read reading had has lost losing status.NoMemory h = no_memory (Some (Records n seq)) bytes size bs bs read reading had has lost losing refl
quiet_records n seq bytes size bs read reading had has lost losing s h = absurd h

-- a status is a fault of the image, or another one
told_fault : (s : Status) → (s ≡ status.ImageFault) ⊎ (s ≡ status.ImageFault → ⊥)
told_fault status.ImageFault = inl refl
told_fault s = inr (λ e. let f = e in cc)

-- where a store gave no text, but for a fault of the image
quiet_store : (n seq : ℕ) (bytes : List ℕ) (size : ℕ) (old new : List Block) (read reading had has lost losing : ℕ) (s : Status) → (s ≡ status.ImageFault → ⊥) → IsStoreEnd n seq bytes size old new read reading had has s
    → IsQuiet (Some (Store n seq)) bytes size old new read reading had has lost losing s
quiet_store n seq bytes size old new read reading had has lost losing status.Ok other h = absurd h
quiet_store n seq bytes size old new read reading had has lost losing status.OutFault other h = absurd h
quiet_store n seq bytes size old new read reading had has lost losing status.ImageFault other h = absurd (other refl)
quiet_store n seq bytes size old new read reading had has lost losing status.ScriptFault other h = script_fault (Some (Store n seq)) bytes size old new read reading had has lost losing h.0 tt h.1 h.1
quiet_store n seq bytes size old new read reading had has lost losing status.ScriptTooLong other h = verdict (Some (Store n seq)) bytes size old new read reading had has lost losing status.ScriptTooLong refl h.0 (λ was now before after w. w) h.1 h.1
quiet_store n seq bytes size old new read reading had has lost losing (status.LineLong k) other h = verdict (Some (Store n seq)) bytes size old new read reading had has lost losing (status.LineLong k) refl h.0 (λ was now before after w. w) h.1 h.1
quiet_store n seq bytes size old new read reading had has lost losing (status.BadSize k) other h = verdict (Some (Store n seq)) bytes size old new read reading had has lost losing (status.BadSize k) refl h.0 (λ was now before after w. w) h.1 h.1
quiet_store n seq bytes size old new read reading had has lost losing (status.NotAccepted f) other h = verdict (Some (Store n seq)) bytes size old new read reading had has lost losing (status.NotAccepted f) refl h.0 (λ was now before after w. w) h.1 h.1
quiet_store n seq bytes size old new read reading had has lost losing status.NoFile other h = verdict (Some (Store n seq)) bytes size old new read reading had has lost losing status.NoFile refl h.0 (λ was now before after w. w) h.1 h.1
quiet_store n seq bytes size old new read reading had has lost losing status.NoPriv other h = verdict (Some (Store n seq)) bytes size old new read reading had has lost losing status.NoPriv refl h.0 (λ was now before after w. w) h.1 h.1
quiet_store n seq bytes size old new read reading had has lost losing status.NotEmpty other h = verdict (Some (Store n seq)) bytes size old new read reading had has lost losing status.NotEmpty refl h.0 (λ was now before after w. w) h.1 h.1
quiet_store n seq bytes size old new read reading had has lost losing status.NoRoom other h = verdict (Some (Store n seq)) bytes size old new read reading had has lost losing status.NoRoom refl h.0 (λ was now before after w. w) h.1 h.1
quiet_store n seq bytes size old new read reading had has lost losing status.NoMemory other h = no_memory (Some (Store n seq)) bytes size old new read reading had has lost losing h.1
quiet_store n seq bytes size old new read reading had has lost losing s other h = absurd h.0.1

quiet_init : (cluster files : ℕ) (label bytes : List ℕ) (size : ℕ) (old new : List Block) (read reading had has lost losing : ℕ) (s : Status) → IsInitEnd cluster files label size had has s → IsFormatted (home_of cluster files label) old new s
    → IsQuiet (Some (Init cluster files label)) bytes size old new read reading had has lost losing s
quiet_init cluster files label bytes size old new read reading had has lost losing status.ImageFault h i = image_fault (Some (Init cluster files label)) bytes size old new read reading had has lost losing h tt refl i i
quiet_init cluster files label bytes size old new read reading had has lost losing (status.BadSize n) h i =
    verdict (Some (Init cluster files label)) bytes size old new read reading had has lost losing (status.BadSize n) refl h (λ was now before after w. w) i (inl i)
quiet_init cluster files label bytes size old new read reading had has lost losing (status.BadInit f) h i =
    verdict (Some (Init cluster files label)) bytes size old new read reading had has lost losing (status.BadInit f) refl h (λ was now before after w. w) i (inl i)
quiet_init cluster files label bytes size old new read reading had has lost losing status.NoMemory h i = no_memory (Some (Init cluster files label)) bytes size old new read reading had has lost losing i
quiet_init cluster files label bytes size old new read reading had has lost losing s h i = absurd h

-- ---- what is answered

module _ (wanted : Option Wanted) (bytes : List ℕ) (size : ℕ) (old new : List Block) (was now : Option (List ℕ)) (read reading had has lost losing before after : ℕ) where
  quiet_is : (s : Status) → IsQuiet wanted bytes size old new read reading had has lost losing s → IsWritten was now before after (status_text s) → IsAnswer wanted bytes size old new was now read reading had has lost losing before after s
  quiet_is s q w = record { due = q.due; script_fault = q.script_fault; image_fault = q.image_fault; out_fault = λ e. absurd (q.out_fault e); written = q.written was now before after w; left = q.left }

  lacking_is : IsImageAfter wanted bytes had has old new status.NoMemory → IsWritten was now before after (status_text status.NoMemory) → IsAnswer wanted bytes size old new was now read reading had has lost losing before after status.NoMemory
  lacking_is left w = quiet_is status.NoMemory (no_memory wanted bytes size old new read reading had has lost losing left) w

  -- a quiet status, or want of memory for its text
  pub told : (s r : Status) → IsQuiet wanted bytes size old new read reading had has lost losing s → (r ≡ s) ⊎ (r ≡ status.NoMemory) → IsWritten was now before after (status_text r)
      → IsAnswer wanted bytes size old new was now read reading had has lost losing before after r
  told s r q (inl e) w = subst (IsAnswer wanted bytes size old new was now read reading had has lost losing before after) (sym e) (quiet_is s q (subst (λ (x : Status). IsWritten was now before after (status_text x)) e w))
  told s r q (inr e) w =
      subst (IsAnswer wanted bytes size old new was now read reading had has lost losing before after) (sym e) (lacking_is q.lacking (subst (λ (x : Status). IsWritten was now before after (status_text x)) e w))

  -- a write that failed
  cut_is : (text : List ℕ) → IsDue wanted bytes size old status.ImageFault → Rose had has → IsFaultTextOf wanted bytes lost losing old new status.ImageFault text → IsImageAfter wanted bytes had has old new status.ImageFault
      → IsWritten was now before after text → IsAnswer wanted bytes size old new was now read reading had has lost losing before after status.ImageFault
  cut_is text due rose fault left w = record {
    due = due;
    script_fault = λ e. absurd (let f : status.ImageFault ≡ status.ScriptFault = e in cc);
    image_fault = λ e. rose;
    out_fault = λ e. absurd (let f : status.ImageFault ≡ status.OutFault = e in cc);
    written = (text, fault, w);
    left = left;
  }

  unmended_is : (f : Finding) (text : List ℕ) → IsDue wanted bytes size old (status.NotMendable f) → IsFaultTextOf wanted bytes lost losing old new (status.NotMendable f) text → IsImageAfter wanted bytes had has old new (status.NotMendable f)
      → IsWritten was now before after text → IsAnswer wanted bytes size old new was now read reading had has lost losing before after (status.NotMendable f)
  unmended_is f text due fault left w = record {
    due = due;
    script_fault = λ e. absurd (let k : status.NotMendable f ≡ status.ScriptFault = e in cc);
    image_fault = λ e. absurd (let k : status.NotMendable f ≡ status.ImageFault = e in cc);
    out_fault = λ e. absurd (let k : status.NotMendable f ≡ status.OutFault = e in cc);
    written = (text, fault, w);
    left = left;
  }

  -- the text of status 0 is told
  pub ok_is : (text : List ℕ) (s : Status) → IsDue wanted bytes size old status.Ok → IsDue wanted bytes size old status.OutFault → IsTextOf wanted bytes size old new text
      → IsImageAfter wanted bytes had has old new status.Ok → IsImageAfter wanted bytes had has old new status.OutFault
      → (s ≡ status.Ok) ⊎ (s ≡ status.OutFault) → (s ≡ status.Ok → Appends was now text) → (s ≡ status.OutFault → AppendsStart was now text) → (s ≡ status.OutFault → Rose before after)
      → IsAnswer wanted bytes size old new was now read reading had has lost losing before after s
  ok_is text s due out is left left_out (inl e) all cut fault = subst (IsAnswer wanted bytes size old new was now read reading had has lost losing before after) (sym e) (record {
    due = due;
    script_fault = λ q. absurd (let k : status.Ok ≡ status.ScriptFault = q in cc);
    image_fault = λ q. absurd (let k : status.Ok ≡ status.ImageFault = q in cc);
    out_fault = λ q. absurd (let k : status.Ok ≡ status.OutFault = q in cc);
    written = (text, is, all e);
    left = left;
  })
  ok_is text s due out is left left_out (inr e) all cut fault = subst (IsAnswer wanted bytes size old new was now read reading had has lost losing before after) (sym e) (record {
    due = out;
    script_fault = λ q. absurd (let k : status.OutFault ≡ status.ScriptFault = q in cc);
    image_fault = λ q. absurd (let k : status.OutFault ≡ status.ImageFault = q in cc);
    out_fault = λ q. fault e;
    written = (text, is, cut e);
    left = left_out;
  })

  module _ (r : Status) where
    -- how a halt is told
    at_cut : (text : List ℕ) → IsDue wanted bytes size old status.ImageFault → Rose had has → IsFaultTextOf wanted bytes lost losing old new status.ImageFault text → IsImageAfter wanted bytes had has old new status.ImageFault
        → (r ≡ status.ImageFault) × IsWritten was now before after text → IsAnswer wanted bytes size old new was now read reading had has lost losing before after r
    at_cut text due rose fault left t = subst (IsAnswer wanted bytes size old new was now read reading had has lost losing before after) (sym t.0) (cut_is text due rose fault left t.1)

    at_lines : IsImageAfter wanted bytes had has old new status.NoMemory → (r ≡ status.NoMemory) × IsWritten was now before after (status_text status.NoMemory) → IsAnswer wanted bytes size old new was now read reading had has lost losing before after r
    at_lines left t = subst (IsAnswer wanted bytes size old new was now read reading had has lost losing before after) (sym t.0) (lacking_is left t.1)

    at_unmended : (f : Finding) (text : List ℕ) → IsDue wanted bytes size old (status.NotMendable f) → IsFaultTextOf wanted bytes lost losing old new (status.NotMendable f) text
        → IsImageAfter wanted bytes had has old new (status.NotMendable f) → (r ≡ status.NotMendable f) × IsWritten was now before after text → IsAnswer wanted bytes size old new was now read reading had has lost losing before after r
    at_unmended f text due fault left t = subst (IsAnswer wanted bytes size old new was now read reading had has lost losing before after) (sym t.0) (unmended_is f text due fault left t.1)

-- ---- what is found

not_script : (fs : List Finding) (s : Status) → IsFoundEnd fs s → s ≡ status.ScriptFault → ⊥
not_script fs s end e = never fs (subst (IsFoundEnd fs) e end) where
  never : (gs : List Finding) → IsFoundEnd gs status.ScriptFault → ⊥
  never [] h = h
  never (f ∷ gs) h = h

not_image : (fs : List Finding) (s : Status) → IsFoundEnd fs s → s ≡ status.ImageFault → ⊥
not_image fs s end e = never fs (subst (IsFoundEnd fs) e end) where
  never : (gs : List Finding) → IsFoundEnd gs status.ImageFault → ⊥
  never [] h = h
  never (f ∷ gs) h = h

module _ (size : ℕ) (was now : Option (List ℕ)) (read reading had has lost losing before after : ℕ) (r : Status) (fs : List Finding) (inside : IsInside size) (end : IsFoundEnd fs r) (fault : r ≡ status.OutFault → Rose before after) where
  found_is : (bytes : List ℕ) (bs : List Block) → AreFindings bs fs → Writes (λ text. text ≡ accepted_text) IsPlainText bs was now before after r → IsAnswer (Some Analyze) bytes size bs bs was now read reading had has lost losing before after r
  found_is bytes bs found w = record {
    due = found_due size bs fs r inside found end;
    script_fault = λ e. absurd (not_script fs r end e);
    image_fault = λ e. absurd (not_image fs r end e);
    out_fault = fault;
    written = w;
    left = refl;
  }

  pub found_told : ((bs : List Block) → AreFindings bs fs → Writes (λ text. text ≡ accepted_text) IsPlainText bs was now before after r) → (bytes : List ℕ) (old new : List Block)
      → (new ≡ old) × AreFindings old fs → IsAnswer (Some Analyze) bytes size old new was now read reading had has lost losing before after r
  found_told w bytes old new h =
      subst (λ (bs : List Block). IsAnswer (Some Analyze) bytes size old bs was now read reading had has lost losing before after r) (sym h.0) (found_is bytes old (rest h) (w old (rest h)))

-- ---- of each job

module _ (size : ℕ) (was now : Option (List ℕ)) (read reading had has lost losing before after : ℕ) (r : Status) where
  pub run_told : (x : Stop) → IsToldHalt was now before after (halt_of x) r → (bytes : List ℕ) (old new : List Block) → IsRunStop bytes size old new read reading had has lost losing x
      → IsAnswer (Some Run) bytes size old new was now read reading had has lost losing before after r
  run_told (stop.Cut text) t bytes old new h = at_cut (Some Run) bytes size old new was now read reading had has lost losing before after r text.items h.0 h.1 (inr h.2) (inr h.2.cut) t
  run_told stop.NoLines t bytes old new h = at_lines (Some Run) bytes size old new was now read reading had has lost losing before after r (inr (inr (h.1, h.2))) t
  run_told (stop.By s) t bytes old new h = told (Some Run) bytes size old new was now read reading had has lost losing before after s r (quiet_run bytes size old new read reading had has lost losing s h) t.0 t.1

  pub soak_told : (n : ℕ) (x : Stop) → IsToldHalt was now before after (halt_of x) r → (bytes : List ℕ) (old new : List Block) → IsSoakStop n size old new had has lost losing x
      → IsAnswer (Some (Soak n)) bytes size old new was now read reading had has lost losing before after r
  soak_told n (stop.Cut text) t bytes old new h = at_cut (Some (Soak n)) bytes size old new was now read reading had has lost losing before after r text.items tt h.0 (inr h.1) (inr h.1.cut) t
  soak_told n stop.NoLines t bytes old new h = at_lines (Some (Soak n)) bytes size old new was now read reading had has lost losing before after r (inr (inr (h.0, h.1))) t
  soak_told n (stop.By s) t bytes old new h = told (Some (Soak n)) bytes size old new was now read reading had has lost losing before after s r (quiet_soak n bytes size old new read reading had has lost losing s h) t.0 t.1

  pub halt_told : (x : Halt) → IsToldHalt was now before after x r → (bytes : List ℕ) (old new : List Block) → IsRunHalt bytes size old new read reading had has lost losing x
      → IsAnswer (Some RunRebuild) bytes size old new was now read reading had has lost losing before after r
  halt_told (halt.Cut text) t bytes old new h = by h.2 where
    by : IsCutShort (IsScriptOf bytes) old new text.items ⊎ IsMendingCutShort (IsScriptOf bytes) old new text.items → IsAnswer (Some RunRebuild) bytes size old new was now read reading had has lost losing before after r
    by (inl k) = at_cut (Some RunRebuild) bytes size old new was now read reading had has lost losing before after r text.items h.0 h.1 (inr (inl k)) (inr (inl k.cut)) t
    by (inr k) = at_cut (Some RunRebuild) bytes size old new was now read reading had has lost losing before after r text.items h.0 h.1 (inr (inr k)) (inr (inr k.part)) t
  halt_told halt.NoLines t bytes old new h = at_lines (Some RunRebuild) bytes size old new was now read reading had has lost losing before after r (inr (inr (by h.2))) t where
    by : IsCutOf (IsScriptOf bytes) old new ⊎ IsPartlyMended (IsScriptOf bytes) old new → (Rose had has × IsCutOf (IsScriptOf bytes) old new) ⊎ IsPartlyMended (IsScriptOf bytes) old new
    by (inl k) = inl (h.1, k)
    by (inr k) = inr k
  halt_told (halt.Unmended text f) t bytes old new h =
      at_unmended (Some RunRebuild) bytes size old new was now read reading had has lost losing before after r f text.items (h.0, h.1, (new, h.2.unmended)) h.2 h.2.unmended t
  halt_told (halt.By s) t bytes old new (inl h) = told (Some RunRebuild) bytes size old new was now read reading had has lost losing before after s r (quiet_run_rebuild bytes size old new read reading had has lost losing s h) t.0 t.1
  halt_told (halt.By s) t bytes old new (inr h) =
      told (Some RunRebuild) bytes size old new was now read reading had has lost losing before after s r
      (subst (IsQuiet (Some RunRebuild) bytes size old new read reading had has lost losing) (sym h.0) (no_memory (Some RunRebuild) bytes size old new read reading had has lost losing (inr (inr (inr h.1))))) t.0 t.1

  module _ (s : Status) (either : (r ≡ s) ⊎ (r ≡ status.NoMemory)) (w : IsWritten was now before after (status_text r)) where
    pub load_told : (bytes : List ℕ) (bs : List Block) → IsLoadEnd size had has s → IsAnswer (Some Analyze) bytes size bs bs was now read reading had has lost losing before after r
    load_told bytes bs h = told (Some Analyze) bytes size bs bs was now read reading had has lost losing before after s r (quiet_analysis bytes size bs read reading had has lost losing s h) either w

    pub rebuild_told : (bytes : List ℕ) (old new : List Block) → IsRebuildEnd size old new had has s → IsAnswer (Some Rebuild) bytes size old new was now read reading had has lost losing before after r
    rebuild_told bytes old new h = told (Some Rebuild) bytes size old new was now read reading had has lost losing before after s r (quiet_rebuild bytes size old new read reading had has lost losing s h) either w

    pub repair_told : (bytes : List ℕ) (old new : List Block) → IsRepairEnd size old new had has s → IsAnswer (Some Repair) bytes size old new was now read reading had has lost losing before after r
    repair_told bytes old new h = told (Some Repair) bytes size old new was now read reading had has lost losing before after s r (quiet_repair bytes size old new read reading had has lost losing s h) either w

    records_told_of : (n seq : ℕ) (bytes : List ℕ) (bs : List Block) → IsRecordsEnd n seq size bs had has s → IsAnswer (Some (Records n seq)) bytes size bs bs was now read reading had has lost losing before after r
    records_told_of n seq bytes bs h = told (Some (Records n seq)) bytes size bs bs was now read reading had has lost losing before after s r (quiet_records n seq bytes size bs read reading had has lost losing s h) either w

    pub records_told : (n seq : ℕ) (bytes : List ℕ) (old new : List Block) → (new ≡ old) × IsRecordsEnd n seq size old had has s → IsAnswer (Some (Records n seq)) bytes size old new was now read reading had has lost losing before after r
    records_told n seq bytes old new h = subst (λ (bs : List Block). IsAnswer (Some (Records n seq)) bytes size old bs was now read reading had has lost losing before after r) (sym h.0) (records_told_of n seq bytes old h.1)

    -- A fault of the image is told, so want of memory comes where the image stays.
    pub store_told : (s ≡ status.ImageFault → r ≡ status.ImageFault) → (n seq : ℕ) (bytes : List ℕ) (old new : List Block) → IsStoreEnd n seq bytes size old new read reading had has s
        → IsAnswer (Some (Store n seq)) bytes size old new was now read reading had has lost losing before after r
    store_told fault n seq bytes old new h = by (told_fault s) where
      by : (s ≡ status.ImageFault) ⊎ (s ≡ status.ImageFault → ⊥) → IsAnswer (Some (Store n seq)) bytes size old new was now read reading had has lost losing before after r
      by (inl e) =
          let is = fault e in
          let k = subst (IsStoreEnd n seq bytes size old new read reading had has) e h in
          at_cut (Some (Store n seq)) bytes size old new was now read reading had has lost losing before after r (status_text status.ImageFault) (k.0, tt) k.1 refl k.2
          (is, subst (λ (y : Status). IsWritten was now before after (status_text y)) is w)
      by (inr other) = told (Some (Store n seq)) bytes size old new was now read reading had has lost losing before after s r (quiet_store n seq bytes size old new read reading had has lost losing s other h) either w

    pub init_told : (cluster files : ℕ) (label bytes : List ℕ) (old new : List Block) → IsInitEnd cluster files label size had has s → IsFormatted (home_of cluster files label) old new s
        → IsAnswer (Some (Init cluster files label)) bytes size old new was now read reading had has lost losing before after r
    init_told cluster files label bytes old new h i =
        told (Some (Init cluster files label)) bytes size old new was now read reading had has lost losing before after s r (quiet_init cluster files label bytes size old new read reading had has lost losing s h i) either w

  pub words_told : (r ≡ status.BadWords) ⊎ (r ≡ status.NoMemory) → IsWritten was now before after (status_text r) → (bytes : List ℕ) (bs : List Block) → IsAnswer None bytes size bs bs was now read reading had has lost losing before after r
  words_told either w bytes bs = told None bytes size bs bs was now read reading had has lost losing before after status.BadWords r (bad_words bytes size bs read reading had has lost losing) either w

  -- the text of status 0
  module _ (text : List ℕ) (either : (r ≡ status.Ok) ⊎ (r ≡ status.OutFault)) (all : r ≡ status.Ok → Appends was now text) (cut : r ≡ status.OutFault → AppendsStart was now text) (fault : r ≡ status.OutFault → Rose before after) where
    pub run_ok : (bytes : List ℕ) (old new : List Block) → IsReported bytes size old new text → IsAnswer (Some Run) bytes size old new was now read reading had has lost losing before after r
    run_ok bytes old new h = ok_is (Some Run) bytes size old new was now read reading had has lost losing before after text r (h.good, h.accepted) (h.good, h.accepted) h.report h.drive h.drive either all cut fault

    pub soak_ok : (n : ℕ) (bytes : List ℕ) (old new : List Block) → IsSummarized n size old new text → IsAnswer (Some (Soak n)) bytes size old new was now read reading had has lost losing before after r
    soak_ok n bytes old new h = ok_is (Some (Soak n)) bytes size old new was now read reading had has lost losing before after text r h.accepted h.accepted h.summary h.drive h.drive either all cut fault

    pub halt_ok : (bytes : List ℕ) (old new : List Block) → IsMendedWith bytes size old new text → IsAnswer (Some RunRebuild) bytes size old new was now read reading had has lost losing before after r
    halt_ok bytes old new h =
        let both = h.report.both in
        let mendable : IsMendableThen (IsScriptOf bytes) old = record { new = both.before; ran = both.ran; after = both.mended.after; done = both.done; mends = both.mended.mends } in
        ok_is (Some RunRebuild) bytes size old new was now read reading had has lost losing before after text r (h.good, h.accepted, mendable) (h.good, h.accepted, mendable) h.report both both either all cut fault

    pub init_ok : (cluster files : ℕ) (label bytes : List ℕ) (old new : List Block) → IsFormattedWith cluster files label size old new text
        → IsAnswer (Some (Init cluster files label)) bytes size old new was now read reading had has lost losing before after r
    init_ok cluster files label bytes old new h =
        ok_is (Some (Init cluster files label)) bytes size old new was now read reading had has lost losing before after text r h.possible h.possible h.told h.made h.made either all cut fault

    pub records_ok : (n seq : ℕ) (bytes : List ℕ) (old new : List Block) → (new ≡ old) × IsRecordsOn n seq size old text → IsAnswer (Some (Records n seq)) bytes size old new was now read reading had has lost losing before after r
    records_ok n seq bytes old new h =
        let on = h.1 in
        ok_is (Some (Records n seq)) bytes size old new was now read reading had has lost losing before after text r (on.accepted, on.printed.records) (on.accepted, on.printed.records) on.printed h.0 h.0 either all cut fault

    pub store_ok : (n seq : ℕ) (bytes : List ℕ) (old new : List Block) → IsStoredOf n seq bytes size old new text → IsAnswer (Some (Store n seq)) bytes size old new was now read reading had has lost losing before after r
    store_ok n seq bytes old new h =
        let due : IsDue (Some (Store n seq)) bytes size old status.Ok = (h.storable, h.kept.taken) in
        ok_is (Some (Store n seq)) bytes size old new was now read reading had has lost losing before after text r due due h.kept.told h.kept.stored h.kept.stored either all cut fault

    pub repair_ok : (bytes : List ℕ) (old new : List Block) → IsRepairedWith size old new text → IsAnswer (Some Repair) bytes size old new was now read reading had has lost losing before after r
    repair_ok bytes old new h = ok_is (Some Repair) bytes size old new was now read reading had has lost losing before after text r h.repairable h.repairable h.told h.told.image h.told.image either all cut fault

    pub rebuild_ok : (bytes : List ℕ) (old new : List Block) → IsRebuiltWith size old new text → IsAnswer (Some Rebuild) bytes size old new was now read reading had has lost losing before after r
    rebuild_ok bytes old new h = ok_is (Some Rebuild) bytes size old new was now read reading had has lost losing before after text r h.mendable h.mendable h.told h.told.mended h.told.mended either all cut fault

-- ---- want of memory before the call

pub lacking_call : (wanted : Option Wanted) (bytes : List ℕ) (size : ℕ) (bs : List Block) (was now : Option (List ℕ)) (read reading had has lost losing before after : ℕ) → IsWritten was now before after (status_text status.NoMemory)
    → IsCall wanted bytes size bs bs was now read reading had has lost losing before after status.NoMemory
lacking_call wanted bytes size bs was now read reading had has lost losing before after w = record {
  answer = lacking_is wanted bytes size bs bs was now read reading had has lost losing before after (lacking_image wanted bytes had has bs) w;
  alone = λ v. absurd (false≢true v);
  answered = λ good inside none v. absurd (false≢true (sym (no_verdict wanted) ∙ v));
}
