-- What a call answers, by how its status is told.
use Rattle.std.proofs.Common.{◌≡◌, ◌∙◌, ◌⊎◌, ℕ, true, false, List, Option, Some, None, refl, sym, subst, inl, inr}
use Rattle.std.proofs.lemmas.Bool.{false≢true}
use Rattle.std.specs.Io.KnownBytes.{Appends}
use Rattle.base_words.specs.Fields.{Block}
use Rattle.base_words.specs.Faults.{Rose}
use Rattle.fx_text.specs.Streams.{AppendsStart}
use Rattle.fx_text.specs.Written.{IsWritten}
use Rattle.vol_parts.specs.declared.finding.Finding.{Finding}
use Rattle.run_engine.specs.declared.status.Status.{Status}
use Rattle.run_engine.specs.declared.status.Status.TheVariants as status
use Rattle.run_engine.specs.declared.over_mending.Halt.{Halt}
use Rattle.run_engine.specs.declared.over_mending.Halt.TheVariants as halt
use Rattle.run_engine.specs.Halts.{IsToldHalt}
use Rattle.run_engine.specs.Scripts.{IsScriptOf}
use Rattle.run_engine.specs.Texts.{status_text, Writes}
use Rattle.run_engine.specs.Verdicts.{is_verdict}
use Rattle.clus_top.specs.MendedRuns.{IsMendableThen}
use Rattle.clus_top.specs.Words.{Wanted, RunRebuild}
use Rattle.clus_top.specs.Ends.{IsRunEnd}
use Rattle.clus_top.specs.Statuses.{IsDue}
use Rattle.clus_top.specs.Verdicts.{NoOtherIsDue, GoodRunsAreAnswered}
use Rattle.clus_top.proofs.Lacking.{lacking_due, no_verdict}
use Rattle.run_trace.specs.declared.endings.Ending.{Ending}
use Rattle.run_trace.specs.declared.endings.Ending.TheVariants as ending
use Rattle.run_trace.specs.Inside.{IsTracedOf, IsRefused, IsTraceHalt}
use Rattle.run_trace.specs.Traced.{IsTraceOf, IsFaultTextOf, IsTraceAnswer, IsTraceCall, wanted as wanted_of}

not_this : (s other : Status) → is_verdict s ≡ true → is_verdict other ≡ false → s ≡ other → ⊥
not_this s other v n e = false≢true (sym n ∙ subst (λ (x : Status). is_verdict x ≡ true) e v)

module _ (wanted : Option Wanted) (bytes : List ℕ) (size : ℕ) (old new : List Block) (was now : Option (List ℕ)) (read reading had has before after : ℕ) (left : new ≡ old) where
  abbrev pub Answers : Status → Type 0
  Answers s = IsTraceAnswer wanted bytes size old new was now read reading had has before after s

  -- a status that speaks of what came in alone
  verdict : (s : Status) → is_verdict s ≡ true → IsDue wanted bytes size old s → Writes (IsTraceOf wanted bytes old) (IsFaultTextOf wanted bytes old) old was now before after s → Answers s
  verdict s v due written = record {
    due = due;
    script_fault = λ e. absurd (not_this s status.ScriptFault v refl e);
    image_fault = λ e. absurd (not_this s status.ImageFault v refl e);
    out_fault = λ e. absurd (not_this s status.OutFault v refl e);
    written = written;
    left = left;
  }

  pub lacking : IsWritten was now before after (status_text status.NoMemory) → Answers status.NoMemory
  lacking w = record {
    due = lacking_due wanted bytes size old;
    script_fault = λ e. absurd (let f : status.NoMemory ≡ status.ScriptFault = e in cc);
    image_fault = λ e. absurd (let f : status.NoMemory ≡ status.ImageFault = e in cc);
    out_fault = λ e. absurd (let f : status.NoMemory ≡ status.OutFault = e in cc);
    written = w;
    left = left;
  }

  -- what is told of a status is the status, or want of memory
  told : (s r : Status) → (r ≡ s) ⊎ (r ≡ status.NoMemory) → IsWritten was now before after (status_text r) → (IsWritten was now before after (status_text s) → Answers s) → Answers r
  told s r (inl e) w f = subst Answers (sym e) (f (subst (λ x. IsWritten was now before after (status_text x)) e w))
  told s r (inr e) w f = subst Answers (sym e) (lacking (subst (λ x. IsWritten was now before after (status_text x)) e w))

-- a status of a run that gave no report is due of a run that is mended too
module _ (bytes : List ℕ) (size : ℕ) (old new : List Block) (read reading had has : ℕ) where
  due_of : (e : Ending) (s : Status) → IsRunEnd bytes size old new read reading had has 0 0 s → IsDue (Some (wanted_of e)) bytes size old s
  due_of ending.Report status.ScriptFault h = tt
  due_of ending.Report status.ScriptTooLong h = h.0
  due_of ending.Report (status.BadScript n) h = h.0
  due_of ending.Report status.TooMany h = h.0
  due_of ending.Report status.ImageFault h = h.0
  due_of ending.Report (status.BadSize n) h = h.0
  due_of ending.Report (status.NotAccepted f) h = h.0
  due_of ending.Report status.NoMemory h = tt
  due_of ending.Report s h = absurd h
  due_of ending.Mended status.ScriptFault h = tt
  due_of ending.Mended status.ScriptTooLong h = h.0
  due_of ending.Mended (status.BadScript n) h = h.0
  due_of ending.Mended status.TooMany h = h.0
  due_of ending.Mended status.ImageFault h = h.0
  due_of ending.Mended (status.BadSize n) h = h.0
  due_of ending.Mended (status.NotAccepted f) h = h.0
  due_of ending.Mended status.NoMemory h = tt
  due_of ending.Mended s h = absurd h

-- a fault of the image is told by its text alone
plain_fault : (e : Ending) (bytes : List ℕ) (old : List Block) → IsFaultTextOf (Some (wanted_of e)) bytes old status.ImageFault (status_text status.ImageFault)
plain_fault ending.Report bytes old = refl
plain_fault ending.Mended bytes old = refl

-- a trace is due
trace_due : (e : Ending) (bytes : List ℕ) (size : ℕ) (old new : List Block) (text : List ℕ) → IsTracedOf e bytes size old new text → IsDue (Some (wanted_of e)) bytes size old status.Ok × IsDue (Some (wanted_of e)) bytes size old status.OutFault
trace_due ending.Report bytes size old new text h = ((h.good, h.accepted), (h.good, h.accepted))
trace_due ending.Mended bytes size old new text h =
    let both = h.traced.mended.both in
    let then : IsMendableThen (IsScriptOf bytes) old = record { new = both.before; ran = both.ran; after = both.mended.after; done = both.done; mends = both.mended.mends } in
    ((h.good, h.accepted, then), (h.good, h.accepted, then))

-- a drive that cannot be mended
refused_told : (e : Ending) (bytes : List ℕ) (size : ℕ) (old new : List Block) (was now : Option (List ℕ)) (read reading had has before after : ℕ) (text : List ℕ) (f : Finding) (r : Status)
    → (r ≡ status.NotMendable f) × IsWritten was now before after text → IsRefused e bytes size old new f text
    → IsTraceAnswer (Some (wanted_of e)) bytes size old new was now read reading had has before after r
refused_told ending.Report bytes size old new was now read reading had has before after text f r t h = absurd h
refused_told ending.Mended bytes size old new was now read reading had has before after text f r t h =
    subst (λ s. IsTraceAnswer (Some RunRebuild) bytes size old new was now read reading had has before after s) (sym t.0)
    (verdict (Some RunRebuild) bytes size old new was now read reading had has before after h.left (status.NotMendable f) refl
    (h.good, h.accepted, (h.traced.end, h.traced.unmended.unmended)) (text, h.traced, t.1))

module _ (e : Ending) (bytes : List ℕ) (size : ℕ) (old new : List Block) (was now : Option (List ℕ)) (read reading had has before after : ℕ) where
  abbrev IsAnswer : Status → Type 0
  IsAnswer s = IsTraceAnswer (Some (wanted_of e)) bytes size old new was now read reading had has before after s

  plain : (s : Status) → is_verdict s ≡ true → IsRunEnd bytes size old new read reading had has 0 0 s → new ≡ old → Writes (IsTraceOf (Some (wanted_of e)) bytes old) (IsFaultTextOf (Some (wanted_of e)) bytes old) old was now before after s → IsAnswer s
  plain s v h left w = verdict (Some (wanted_of e)) bytes size old new was now read reading had has before after left s v (due_of bytes size old new read reading had has e s h) w

  end_is : (s : Status) → IsRunEnd bytes size old new read reading had has 0 0 s → new ≡ old → IsWritten was now before after (status_text s) → IsAnswer s
  end_is status.ScriptFault h left w = record {
    due = due_of bytes size old new read reading had has e status.ScriptFault h;
    script_fault = λ e. h.0;
    image_fault = λ e. absurd (let f : status.ScriptFault ≡ status.ImageFault = e in cc);
    out_fault = λ e. absurd (let f : status.ScriptFault ≡ status.OutFault = e in cc);
    written = w;
    left = left;
  }
  end_is status.ScriptTooLong h left w = plain status.ScriptTooLong refl h left w
  end_is (status.BadScript n) h left w = plain (status.BadScript n) refl h left w
  end_is status.TooMany h left w = plain status.TooMany refl h left w
  end_is status.ImageFault h left w = record {
    due = due_of bytes size old new read reading had has e status.ImageFault h;
    script_fault = λ e. absurd (let f : status.ImageFault ≡ status.ScriptFault = e in cc);
    image_fault = λ e. h.1;
    out_fault = λ e. absurd (let f : status.ImageFault ≡ status.OutFault = e in cc);
    written = (status_text status.ImageFault, plain_fault e bytes old, w);
    left = left;
  }
  end_is (status.BadSize n) h left w = plain (status.BadSize n) refl h left w
  end_is (status.NotAccepted f) h left w = plain (status.NotAccepted f) refl h left w
  end_is status.NoMemory h left w = lacking (Some (wanted_of e)) bytes size old new was now read reading had has before after left w
  end_is s h left w = absurd h

  -- why there is no trace of status 0
  pub halt_told : (x : Halt) (r : Status) → IsToldHalt was now before after x r → IsTraceHalt e bytes size old new read reading had has x → IsAnswer r
  halt_told (halt.Cut text) r t h = absurd h
  halt_told halt.NoLines r t h = absurd h
  halt_told (halt.Unmended text f) r t h = refused_told e bytes size old new was now read reading had has before after text.items f r t h
  halt_told (halt.By s) r t h = told (Some (wanted_of e)) bytes size old new was now read reading had has before after h.1 s r t.0 t.1 (end_is s h.0 h.1)

  pub text_told : (text : List ℕ) (r : Status) → IsTracedOf e bytes size old new text → (r ≡ status.Ok) ⊎ (r ≡ status.OutFault) → (r ≡ status.Ok → Appends was now text) → (r ≡ status.OutFault → AppendsStart was now text) → (r ≡ status.OutFault → Rose before after)
      → IsAnswer r
  text_told text r h (inl is) all cut fault = subst (λ s. IsAnswer s) (sym is)
      (verdict (Some (wanted_of e)) bytes size old new was now read reading had has before after h.left status.Ok refl (trace_due e bytes size old new text h).0 (text, h.traced, all is))
  text_told text r h (inr is) all cut fault = subst (λ s. IsAnswer s) (sym is) (record {
    due = (trace_due e bytes size old new text h).1;
    script_fault = λ f. absurd (let g : status.OutFault ≡ status.ScriptFault = f in cc);
    image_fault = λ f. absurd (let g : status.OutFault ≡ status.ImageFault = f in cc);
    out_fault = λ f. fault is;
    written = (text, h.traced, cut is);
    left = h.left;
  })

module _ (bytes : List ℕ) (size : ℕ) (old new : List Block) (was now : Option (List ℕ)) (read reading had has before after : ℕ) where
  pub words_told : (r : Status) → (r ≡ status.BadWords) ⊎ (r ≡ status.NoMemory) → IsWritten was now before after (status_text r) → new ≡ old → IsTraceAnswer None bytes size old new was now read reading had has before after r
  words_told r either w left =
      told None bytes size old new was now read reading had has before after left status.BadWords r either w
      (λ v. verdict None bytes size old new was now read reading had has before after left status.BadWords refl tt v)

module _ (wanted : Option Wanted) (size : ℕ) (was now : Option (List ℕ)) (read reading had has before after : ℕ) (s : Status) where
  pub called : NoOtherIsDue → GoodRunsAreAnswered → (bytes : List ℕ) (old new : List Block) → IsTraceAnswer wanted bytes size old new was now read reading had has before after s
      → IsTraceCall wanted bytes size old new was now read reading had has before after s
  called alone good bytes old new a = record {
    answer = a;
    alone = alone wanted bytes size old s a.due;
    answered = λ given inside none v. good wanted bytes size old s given inside none v a.due;
  }

pub lacking_call : (wanted : Option Wanted) (bytes : List ℕ) (size : ℕ) (bs : List Block) (was now : Option (List ℕ)) (read reading had has before after : ℕ) → IsWritten was now before after (status_text status.NoMemory)
    → IsTraceCall wanted bytes size bs bs was now read reading had has before after status.NoMemory
lacking_call wanted bytes size bs was now read reading had has before after w = record {
  answer = lacking wanted bytes size bs bs was now read reading had has before after refl w;
  alone = λ v. absurd (false≢true v);
  answered = λ good inside none v. absurd (false≢true (sym (no_verdict wanted) ∙ v));
}
