-- What a live call answers, by how it is told.
use Rattle.std.proofs.Common.{◌≡◌, ◌∙◌, ◌⊎◌, ℕ, true, false, List, Option, Some, None, refl, sym, subst, inl, inr}
use Rattle.std.proofs.lemmas.Bool.{false≢true}
use Rattle.std.specs.Io.KnownBytes.{Appends}
use Rattle.base_words.specs.Fields.{Block}
use Rattle.base_words.specs.Faults.{Rose}
use Rattle.fx_text.specs.Streams.{AppendsStart}
use Rattle.fx_text.specs.Written.{IsWritten}
use Rattle.plain_cat.specs.declared.script.Script.{Script}
use Rattle.vol_parts.specs.declared.finding.Finding.{Finding}
use Rattle.run_engine.specs.declared.status.Status.{Status}
use Rattle.run_engine.specs.declared.status.Status.TheVariants as status
use Rattle.run_engine.specs.declared.over_mending.Halt.{Halt}
use Rattle.run_engine.specs.declared.over_mending.Halt.TheVariants as halt
use Rattle.run_engine.specs.Halts.{IsToldHalt}
use Rattle.run_engine.specs.Texts.{status_text, Writes}
use Rattle.run_engine.specs.Verdicts.{is_verdict}
use Rattle.live_run.specs.declared.words.Job.{Job}
use Rattle.live_run.specs.declared.words.Job.TheVariants as job
use Rattle.live_run.specs.Calls.{IsAnswer, IsCall}
use Rattle.live_run.specs.Laws.{AnswersGood}
use Rattle.live_run.specs.Lives.{IsEnd, IsCut, IsLacking, IsUnmended}
use Rattle.live_run.specs.Statuses.{OfGiven, IsDue, IsTextOf, IsFaultTextOf, IsImageAfter, IsReported, IsRunEnd, IsRunHalt}
use Rattle.live_run.proofs.Lacking.{lacking_due, lacking_image, no_verdict}

-- what is said of a given script may be less
on_given : (bytes : List ℕ) (P Q : Script → Type 0) → ((s : Script) → P s → Q s) → OfGiven bytes P → OfGiven bytes Q
on_given bytes P Q f h = record { script = h.script; given = h.given; holds = f h.script h.holds }

-- what a status says of a job that gave no text, and whose text says all; the image may have been left so where memory runs out for it
pub record IsQuiet (what : Option Job) (bytes : List ℕ) (size : ℕ) (old new : List Block) (read reading had has lost losing : ℕ) (s : Status) : Type 0 where
  pub due : IsDue what bytes size old new s
  pub script_fault : s ≡ status.ScriptFault → Rose read reading
  pub image_fault : s ≡ status.ImageFault → Rose had has
  pub out_fault : s ≡ status.OutFault → ⊥
  pub written : (was now : Option (List ℕ)) (before after : ℕ) → IsWritten was now before after (status_text s)
      → Writes (IsTextOf what bytes old new) (IsFaultTextOf what bytes lost losing old new) old was now before after s
  pub left : IsImageAfter what bytes old new s
  pub lacking : IsImageAfter what bytes old new status.NoMemory

not_this : (s other : Status) → is_verdict s ≡ true → is_verdict other ≡ false → s ≡ other → ⊥
not_this s other v n e = false≢true (sym n ∙ subst (λ (x : Status). is_verdict x ≡ true) e v)

module _ (what : Option Job) (bytes : List ℕ) (size : ℕ) (old new : List Block) (read reading had has lost losing : ℕ) where
  -- a status that speaks of what came in alone
  verdict : (s : Status) → is_verdict s ≡ true → IsDue what bytes size old new s
      → ((was now : Option (List ℕ)) (before after : ℕ) → IsWritten was now before after (status_text s) → Writes (IsTextOf what bytes old new) (IsFaultTextOf what bytes lost losing old new) old was now before after s)
      → IsImageAfter what bytes old new s → IsImageAfter what bytes old new status.NoMemory → IsQuiet what bytes size old new read reading had has lost losing s
  verdict s v due written left lacking = record {
    due = due;
    script_fault = λ e. absurd (not_this s status.ScriptFault v refl e);
    image_fault = λ e. absurd (not_this s status.ImageFault v refl e);
    out_fault = λ e. not_this s status.OutFault v refl e;
    written = written;
    left = left;
    lacking = lacking;
  }

  script_fault : Rose read reading → IsDue what bytes size old new status.ScriptFault → IsImageAfter what bytes old new status.ScriptFault → IsImageAfter what bytes old new status.NoMemory
      → IsQuiet what bytes size old new read reading had has lost losing status.ScriptFault
  script_fault rose due left lacking = record {
    due = due;
    script_fault = λ e. rose;
    image_fault = λ e. absurd (let f : status.ScriptFault ≡ status.ImageFault = e in cc);
    out_fault = λ e. let f : status.ScriptFault ≡ status.OutFault = e in cc;
    written = λ was now before after w. w;
    left = left;
    lacking = lacking;
  }

  image_fault : Rose had has → IsDue what bytes size old new status.ImageFault → IsFaultTextOf what bytes lost losing old new status.ImageFault (status_text status.ImageFault) → IsImageAfter what bytes old new status.ImageFault
      → IsImageAfter what bytes old new status.NoMemory → IsQuiet what bytes size old new read reading had has lost losing status.ImageFault
  image_fault rose due text left lacking = record {
    due = due;
    script_fault = λ e. absurd (let f : status.ImageFault ≡ status.ScriptFault = e in cc);
    image_fault = λ e. rose;
    out_fault = λ e. let f : status.ImageFault ≡ status.OutFault = e in cc;
    written = λ was now before after w. (status_text status.ImageFault, text, w);
    left = left;
    lacking = lacking;
  }

  no_memory : IsImageAfter what bytes old new status.NoMemory → IsQuiet what bytes size old new read reading had has lost losing status.NoMemory
  no_memory left = record {
    due = lacking_due what bytes size old new;
    script_fault = λ e. absurd (let f : status.NoMemory ≡ status.ScriptFault = e in cc);
    image_fault = λ e. absurd (let f : status.NoMemory ≡ status.ImageFault = e in cc);
    out_fault = λ e. let f : status.NoMemory ≡ status.OutFault = e in cc;
    written = λ was now before after w. w;
    left = left;
    lacking = left;
  }

-- ---- which statuses are quiet

bad_words : (bytes : List ℕ) (size : ℕ) (bs : List Block) (read reading had has lost losing : ℕ) → IsQuiet None bytes size bs bs read reading had has lost losing status.BadWords
bad_words bytes size bs read reading had has lost losing = verdict None bytes size bs bs read reading had has lost losing status.BadWords refl tt (λ was now before after w. w) refl refl

quiet_run : (what : Job) (bytes : List ℕ) (size : ℕ) (old new : List Block) (read reading had has lost losing : ℕ) (s : Status) → IsRunEnd what bytes size old new read reading had has lost losing s → IsQuiet (Some what) bytes size old new read reading had has lost losing s
quiet_run what bytes size old new read reading had has lost losing status.ScriptFault h = script_fault (Some what) bytes size old new read reading had has lost losing h.0 tt h.1 (inl h.1)
quiet_run what bytes size old new read reading had has lost losing status.ScriptTooLong h = verdict (Some what) bytes size old new read reading had has lost losing status.ScriptTooLong refl h.0 (λ was now before after w. w) h.1 (inl h.1)
quiet_run what bytes size old new read reading had has lost losing (status.BadScript n) h = verdict (Some what) bytes size old new read reading had has lost losing (status.BadScript n) refl h.0 (λ was now before after w. w) h.1 (inl h.1)
quiet_run what bytes size old new read reading had has lost losing status.TooMany h = verdict (Some what) bytes size old new read reading had has lost losing status.TooMany refl h.0 (λ was now before after w. w) h.1 (inl h.1)
quiet_run what bytes size old new read reading had has lost losing status.ImageFault h = image_fault (Some what) bytes size old new read reading had has lost losing h.1 h.0 (inl (h.2, h.3, refl)) (inl h.2) (inl h.2)
quiet_run what bytes size old new read reading had has lost losing (status.BadSize n) h = verdict (Some what) bytes size old new read reading had has lost losing (status.BadSize n) refl h.0 (λ was now before after w. w) h.1 (inl h.1)
quiet_run what bytes size old new read reading had has lost losing (status.NotAccepted f) h = verdict (Some what) bytes size old new read reading had has lost losing (status.NotAccepted f) refl h.0 (λ was now before after w. w) h.1 (inl h.1)
quiet_run what bytes size old new read reading had has lost losing status.NoMemory h = no_memory (Some what) bytes size old new read reading had has lost losing h
quiet_run what bytes size old new read reading had has lost losing s h = absurd h

-- ---- what is answered

module _ (what : Option Job) (bytes : List ℕ) (size : ℕ) (old new : List Block) (was now : Option (List ℕ)) (read reading had has lost losing before after : ℕ) where
  quiet_is : (s : Status) → IsQuiet what bytes size old new read reading had has lost losing s → IsWritten was now before after (status_text s) → IsAnswer what bytes size old new was now read reading had has lost losing before after s
  quiet_is s q w = record { due = q.due; script_fault = q.script_fault; image_fault = q.image_fault; out_fault = λ e. absurd (q.out_fault e); written = q.written was now before after w; left = q.left }

  lacking_is : IsImageAfter what bytes old new status.NoMemory → IsWritten was now before after (status_text status.NoMemory) → IsAnswer what bytes size old new was now read reading had has lost losing before after status.NoMemory
  lacking_is left w = quiet_is status.NoMemory (no_memory what bytes size old new read reading had has lost losing left) w

  -- a quiet status, or want of memory for its text
  pub told : (s r : Status) → IsQuiet what bytes size old new read reading had has lost losing s → (r ≡ s) ⊎ (r ≡ status.NoMemory) → IsWritten was now before after (status_text r)
      → IsAnswer what bytes size old new was now read reading had has lost losing before after r
  told s r q (inl e) w = subst (IsAnswer what bytes size old new was now read reading had has lost losing before after) (sym e) (quiet_is s q (subst (λ (x : Status). IsWritten was now before after (status_text x)) e w))
  told s r q (inr e) w =
      subst (IsAnswer what bytes size old new was now read reading had has lost losing before after) (sym e) (lacking_is q.lacking (subst (λ (x : Status). IsWritten was now before after (status_text x)) e w))

  -- a write that failed
  cut_is : (text : List ℕ) → IsDue what bytes size old new status.ImageFault → Rose had has → IsFaultTextOf what bytes lost losing old new status.ImageFault text → IsImageAfter what bytes old new status.ImageFault
      → IsWritten was now before after text → IsAnswer what bytes size old new was now read reading had has lost losing before after status.ImageFault
  cut_is text due rose fault left w = record {
    due = due;
    script_fault = λ e. absurd (let f : status.ImageFault ≡ status.ScriptFault = e in cc);
    image_fault = λ e. rose;
    out_fault = λ e. absurd (let f : status.ImageFault ≡ status.OutFault = e in cc);
    written = (text, fault, w);
    left = left;
  }

  unmended_is : (f : Finding) (text : List ℕ) → IsDue what bytes size old new (status.NotMendable f) → IsFaultTextOf what bytes lost losing old new (status.NotMendable f) text → IsImageAfter what bytes old new (status.NotMendable f)
      → IsWritten was now before after text → IsAnswer what bytes size old new was now read reading had has lost losing before after (status.NotMendable f)
  unmended_is f text due fault left w = record {
    due = due;
    script_fault = λ e. absurd (let k : status.NotMendable f ≡ status.ScriptFault = e in cc);
    image_fault = λ e. absurd (let k : status.NotMendable f ≡ status.ImageFault = e in cc);
    out_fault = λ e. absurd (let k : status.NotMendable f ≡ status.OutFault = e in cc);
    written = (text, fault, w);
    left = left;
  }

  -- the text of status 0 is told
  pub ok_is : (text : List ℕ) (s : Status) → IsDue what bytes size old new status.Ok → IsDue what bytes size old new status.OutFault → IsTextOf what bytes old new text
      → IsImageAfter what bytes old new status.Ok → IsImageAfter what bytes old new status.OutFault
      → (s ≡ status.Ok) ⊎ (s ≡ status.OutFault) → (s ≡ status.Ok → Appends was now text) → (s ≡ status.OutFault → AppendsStart was now text) → (s ≡ status.OutFault → Rose before after)
      → IsAnswer what bytes size old new was now read reading had has lost losing before after s
  ok_is text s due out is left left_out (inl e) all cut fault = subst (IsAnswer what bytes size old new was now read reading had has lost losing before after) (sym e) (record {
    due = due;
    script_fault = λ q. absurd (let k : status.Ok ≡ status.ScriptFault = q in cc);
    image_fault = λ q. absurd (let k : status.Ok ≡ status.ImageFault = q in cc);
    out_fault = λ q. absurd (let k : status.Ok ≡ status.OutFault = q in cc);
    written = (text, is, all e);
    left = left;
  })
  ok_is text s due out is left left_out (inr e) all cut fault = subst (IsAnswer what bytes size old new was now read reading had has lost losing before after) (sym e) (record {
    due = out;
    script_fault = λ q. absurd (let k : status.OutFault ≡ status.ScriptFault = q in cc);
    image_fault = λ q. absurd (let k : status.OutFault ≡ status.ImageFault = q in cc);
    out_fault = λ q. fault e;
    written = (text, is, cut e);
    left = left_out;
  })

  module _ (r : Status) where
    -- how a halt is told
    at_cut : (text : List ℕ) → IsDue what bytes size old new status.ImageFault → Rose had has → IsFaultTextOf what bytes lost losing old new status.ImageFault text → IsImageAfter what bytes old new status.ImageFault
        → (r ≡ status.ImageFault) × IsWritten was now before after text → IsAnswer what bytes size old new was now read reading had has lost losing before after r
    at_cut text due rose fault left t = subst (IsAnswer what bytes size old new was now read reading had has lost losing before after) (sym t.0) (cut_is text due rose fault left t.1)

    at_lines : IsImageAfter what bytes old new status.NoMemory → (r ≡ status.NoMemory) × IsWritten was now before after (status_text status.NoMemory) → IsAnswer what bytes size old new was now read reading had has lost losing before after r
    at_lines left t = subst (IsAnswer what bytes size old new was now read reading had has lost losing before after) (sym t.0) (lacking_is left t.1)

    at_unmended : (f : Finding) (text : List ℕ) → IsDue what bytes size old new (status.NotMendable f) → IsFaultTextOf what bytes lost losing old new (status.NotMendable f) text
        → IsImageAfter what bytes old new (status.NotMendable f) → (r ≡ status.NotMendable f) × IsWritten was now before after text → IsAnswer what bytes size old new was now read reading had has lost losing before after r
    at_unmended f text due fault left t = subst (IsAnswer what bytes size old new was now read reading had has lost losing before after) (sym t.0) (unmended_is f text due fault left t.1)

-- ---- of each call

module _ (what : Job) (size : ℕ) (was now : Option (List ℕ)) (read reading had has lost losing before after : ℕ) (r : Status) where
  pub halt_told : (x : Halt) → IsToldHalt was now before after x r → (bytes : List ℕ) (old new : List Block) → IsRunHalt what bytes size old new read reading had has lost losing x
      → IsAnswer (Some what) bytes size old new was now read reading had has lost losing before after r
  halt_told (halt.Cut text) t bytes old new h =
      at_cut (Some what) bytes size old new was now read reading had has lost losing before after r text.items h.0 h.1 (inr h.2)
      (inr (on_given bytes (λ s. IsCut what s old new text.items) (λ s. (u : List ℕ) × IsCut what s old new u) (λ s c. (text.items, c)) h.2)) t
  halt_told halt.NoLines t bytes old new h =
      at_lines (Some what) bytes size old new was now read reading had has lost losing before after r
      (inr (on_given bytes (λ s. (u : List ℕ) × IsCut what s old new u) (λ s. IsLacking what s old new) (λ s c. inr c) h.2)) t
  halt_told (halt.Unmended text f) t bytes old new h =
      let u = on_given bytes (λ s. IsUnmended what s old new f text.items) (λ s. (u : List ℕ) × IsUnmended what s old new f u) (λ s c. (text.items, c)) h.2 in
      at_unmended (Some what) bytes size old new was now read reading had has lost losing before after r f text.items (h.0, h.1, u) h.2 u t
  halt_told (halt.By s) t bytes old new h = told (Some what) bytes size old new was now read reading had has lost losing before after s r (quiet_run what bytes size old new read reading had has lost losing s h) t.0 t.1

  -- the text of status 0
  pub halt_ok : (text : List ℕ) → (r ≡ status.Ok) ⊎ (r ≡ status.OutFault) → (r ≡ status.Ok → Appends was now text) → (r ≡ status.OutFault → AppendsStart was now text) → (r ≡ status.OutFault → Rose before after)
      → (bytes : List ℕ) (old new : List Block) → IsReported what bytes size old new text → IsAnswer (Some what) bytes size old new was now read reading had has lost losing before after r
  halt_ok text either all cut fault bytes old new h =
      let end = on_given bytes (λ s. IsEnd what s old new text) (λ s. (u : List ℕ) × IsEnd what s old new u) (λ s c. (text, c)) h.report in
      ok_is (Some what) bytes size old new was now read reading had has lost losing before after text r (h.good, h.accepted) (h.good, h.accepted) h.report end end either all cut fault

module _ (size : ℕ) (was now : Option (List ℕ)) (read reading had has lost losing before after : ℕ) (r : Status) where
  pub words_told : (r ≡ status.BadWords) ⊎ (r ≡ status.NoMemory) → IsWritten was now before after (status_text r) → (bytes : List ℕ) (bs : List Block) → IsAnswer None bytes size bs bs was now read reading had has lost losing before after r
  words_told either w bytes bs = told None bytes size bs bs was now read reading had has lost losing before after status.BadWords r (bad_words bytes size bs read reading had has lost losing) either w

-- ---- want of memory before the call

pub lacking_call : (what : Option Job) (bytes : List ℕ) (size : ℕ) (bs : List Block) (was now : Option (List ℕ)) (read reading had has lost losing before after : ℕ) → IsWritten was now before after (status_text status.NoMemory)
    → IsCall what bytes size bs bs was now read reading had has lost losing before after status.NoMemory
lacking_call what bytes size bs was now read reading had has lost losing before after w = record {
  answer = lacking_is what bytes size bs bs was now read reading had has lost losing before after (lacking_image what bytes bs) w;
  alone = λ v. absurd (false≢true (sym (no_verdict what) ∙ v));
  answered = answered what;
} where
  answered : (o : Option Job) → AnswersGood o bytes size bs status.NoMemory
  answered None = tt
  answered (Some job.Live) = λ good inside none v. absurd (false≢true v)
  answered (Some job.LiveRebuild) = λ good inside none v. absurd (false≢true v)
