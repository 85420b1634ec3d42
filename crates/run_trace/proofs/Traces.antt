-- The trace of a run on a mounted volume, and of a script that is read.
use Rattle.std.proofs.Common.{◌≡◌, ◌∙◌, ◌++◌, ℕ, List, [], Option, Some, refl, sym, ap, subst, inl, inr}
use Rattle.base_words.specs.Fields.{Block}
use Rattle.blk_drive.specs.Images.{IsInside, IsOutside}
use Rattle.blk_drive.specs.Loads.{HasLoadCause}
use Rattle.blk_drive.specs.declared.mirror.LoadFault.{LoadFault}
use Rattle.blk_drive.specs.declared.mirror.LoadFault.TheVariants as load
use Rattle.plain_cat.specs.declared.cat.Cat.{Cat}
use Rattle.plain_cat.specs.declared.script.Script.{Script}
use Rattle.plain_cat.specs.declared.history.Entry.TheVariants as entry
use Rattle.plain_rules.specs.Own.{Whole}
use Rattle.plain_past.proofs.Growing.{replays_grow}
use Rattle.vol_parts.specs.declared.finding.Finding.{Finding}
use Rattle.core_state.specs.Worlds.{Plain}
use Rattle.core_state.specs.Goods.{Good}
use Rattle.core_state.specs.Mounting.{IsMounted, IsMountEnd}
use Rattle.core_state.specs.declared.mounting.MountFault.{MountFault}
use Rattle.core_state.specs.declared.mounting.MountFault.TheVariants as mount
use Rattle.core_state.specs.Ends.{AllOver}
use Rattle.run_engine.specs.Ended.{HasEnded}
use Rattle.run_engine.specs.Halts.{IsMendedBy, IsUnmendedBy}
use Rattle.run_engine.specs.Inputs.{Leaves}
use Rattle.run_engine.specs.Stops.{report_text, mount_status, load_status}
use Rattle.run_engine.specs.Scripts.{IsScriptOf, SpellsWithin}
use Rattle.run_engine.specs.Walks.{Stays}
use Rattle.run_engine.specs.declared.status.Status.{Status}
use Rattle.run_engine.specs.declared.status.Status.TheVariants as status
use Rattle.run_engine.specs.declared.over_mending.Halt.{Halt}
use Rattle.run_engine.specs.declared.over_mending.Halt.TheVariants as halt
use Rattle.run_engine.proofs.Ending.{over_is_spelt}
use Rattle.run_engine.proofs.Given.{good}
use Rattle.run_engine.proofs.Walked.{over_walk}
use Rattle.clus_top.specs.declared.run_job.Printed.TheVariants as printed
use Rattle.clus_top.specs.Ends.{IsRunEnd}
use Rattle.clus_top.proofs.Answered.{IsAnswered, step_keeps}
use Rattle.clus_top.proofs.Jobs.{ran_to_end}
use Rattle.clus_top.proofs.Reported.{has_run, drive_in, whole_in, answered}
use Rattle.run_trace.specs.declared.endings.Ending.{Ending}
use Rattle.run_trace.specs.declared.endings.Ending.TheVariants as ending
use Rattle.run_trace.specs.Inside.{IsEndText, IsRefusalText, IsBehind, IsRefusedBehind, IsHaltBehind, IsTracedIn, IsEndOf, IsHaltOf, IsImageEndOf, IsImageHaltOf, IsTracedOf, IsTraceHalt}
use Rattle.run_trace.specs.Steps.{walk_text}
use Rattle.run_trace.specs.Traced.{IsTraced, IsTracedMended, IsTracedUnmended, IsTraceOf, wanted}
use Rattle.run_trace.specs.Walks.{HasWalked}

-- ---- behind the lines

module _ (w : Plain) (keeps : Good w) (over : AllOver w) (lines : List ℕ) where
  -- the catalogue to which its history leads
  left : (c : Cat) × HasEnded w c
  left = over_is_spelt w keeps over

  -- the report of a mended drive
  pub mended_behind : (told now : Option (List Block)) (report text : List ℕ) → ((c : Cat) → HasEnded w c → Leaves told now (λ new. IsMendedBy w c new report)) → text ≡ lines ++ report → IsBehind (IsEndText ending.Mended) w lines text
  mended_behind told now report text h written =
      let l = h left.0 left.1 in
      record { after = left.0; ended = left.1; report = report; told = (l.new, l.holds); written = written }

  -- or the text that tells that it cannot be mended
  pub refused_behind : (told now : Option (List Block)) (f : Finding) (text : List ℕ) (x : Halt) → ((c : Cat) → HasEnded w c → Leaves told now (λ new. IsUnmendedBy w c new f text)) → IsRefusedBehind lines text f x → IsHaltBehind ending.Mended w lines x
  refused_behind told now f text (halt.Cut all) h r = r
  refused_behind told now f text halt.NoLines h r = r
  refused_behind told now f text (halt.Unmended all g) h r =
      let l = h left.0 left.1 in
      record { after = left.0; ended = left.1; report = text; told = (l.new, subst (λ (k : Finding). IsUnmendedBy w left.0 l.new k text) (sym r.1) l.holds); written = r.0 }
  refused_behind told now f text (halt.By s) h r = r

-- ---- a run on a mounted volume

module _ (start : Plain) (keeps : Good start) (m : IsMounted start.blocks start.script start) where
  pub traced_in : (R : Plain → Cat → List ℕ → Type 0) (new : Plain) (lines text : List ℕ) → HasWalked start.script.plays start new [] lines → AllOver new → Good new → Stays start new → Whole new.script new.history
      → IsBehind R new lines text → IsTracedIn R start.script start.blocks text
  unfolding drive_in has_run whole_in
  traced_in R new lines text walk over good_then stays whole end = record {
    over = record {
      before = new.blocks;
      report = report_text new.history end.after;
      run = record {
        drive = drive_in start keeps m new start.script.plays refl (inr (walk.walked.turns, walk.walked.at)) good_then;
        walked = walk.walked;
        over = over;
        left = whole_in start keeps m new stays (over_walk IsAnswered step_keeps start start.script.plays new (walk.walked.turns, walk.walked.at) (answered start keeps m)) whole end.after end.ended;
        written = refl;
      };
    };
    report = end.report;
    told = end.told;
    written = end.written ∙ ap (λ t. t ++ end.report) walk.written;
  }

  pub halt_in : (e : Ending) (new : Plain) (lines : List ℕ) (x : Halt) → HasWalked start.script.plays start new [] lines → AllOver new → Good new → Stays start new → Whole new.script new.history
      → IsHaltBehind e new lines x → IsHaltOf e start.script start.blocks x
  halt_in e new lines (halt.Cut text) walk over good_then stays whole end = end
  halt_in e new lines halt.NoLines walk over good_then stays whole end = end
  halt_in e new lines (halt.Unmended text f) walk over good_then stays whole end = traced_in (IsRefusalText e f) new lines text.items walk over good_then stays whole end
  halt_in e new lines (halt.By s) walk over good_then stays whole end = subst (IsEndOf start.blocks) (sym end) tt

-- what is said of a mounted volume is said of its blocks
of_mounted : (bs : List Block) (s : Script) (w : Plain) (P : Script → List Block → Type 0) → IsMounted bs s w → P w.script w.blocks → P s bs
of_mounted bs s w P m h = subst (λ (t : Script). P t bs) (ap (λ (v : Plain). v.script) m.is) (subst (λ (b : List Block). P w.script b) (ap (λ (v : Plain). v.blocks) m.is) h)

pub traced_of_mounted : (R : Plain → Cat → List ℕ → Type 0) (bs : List Block) (s : Script) (w : Plain) (text : List ℕ) → IsMounted bs s w → IsTracedIn R w.script w.blocks text → IsTracedIn R s bs text
traced_of_mounted R bs s w text m h = of_mounted bs s w (λ t b. IsTracedIn R t b text) m h

pub halt_of_mounted : (e : Ending) (bs : List Block) (s : Script) (w : Plain) (x : Halt) → IsMounted bs s w → IsHaltOf e w.script w.blocks x → IsHaltOf e s bs x
halt_of_mounted e bs s w x m h = of_mounted bs s w (λ t b. IsHaltOf e t b x) m h

pub mount_end : (bs : List Block) (f : MountFault) → IsMountEnd bs f → IsEndOf bs (mount_status f)
mount_end bs (mount.NotAccepted f) h = h
mount_end bs mount.NoMemory h = tt

-- ---- on an image

image_end : (size : ℕ) (bs : List Block) (had has : ℕ) (s : Status) → IsInside size → IsEndOf bs s → IsImageEndOf size bs had has s
image_end size bs had has (status.NotAccepted f) inside h = (inside, h)
image_end size bs had has status.NoMemory inside h = tt
image_end size bs had has s inside h = absurd h

pub image_halt : (e : Ending) (script : Script) (size : ℕ) (bs : List Block) (had has : ℕ) (x : Halt) → IsInside size → IsHaltOf e script bs x → IsImageHaltOf e script size bs had has x
image_halt e script size bs had has (halt.Cut text) inside h = h
image_halt e script size bs had has halt.NoLines inside h = h
image_halt e script size bs had has (halt.Unmended text f) inside h = (inside, h)
image_halt e script size bs had has (halt.By s) inside h = image_end size bs had has s inside h

pub load_end : (size : ℕ) (bs : List Block) (had has : ℕ) (f : LoadFault) → HasLoadCause size had has f → IsImageEndOf size bs had has (load_status f)
load_end size bs had has load.ImageFault cause = cause
load_end size bs had has (load.BadSize n) cause = (cause.0, subst IsOutside cause.0 cause.1)
load_end size bs had has load.NoMemory cause = tt

-- ---- of the script of a job

module _ (IsGiven : Script → Type 0) (script : Script) (given : IsGiven script) (bs : List Block) (text : List ℕ) where
  report_of : IsTracedIn (IsEndText ending.Report) script bs text → IsTraced IsGiven bs text
  unfolding ran_to_end
  report_of h = record {
    end = h.over.before;
    ran = ran_to_end IsGiven script given bs h.over.before printed.Report h.over.report h.over.run;
    written = h.written ∙ ap (λ t. walk_text script.plays h.over.run.walked.turns h.over.run.drive.ran.start ++ t) h.told;
  }

  mended_of : IsTracedIn (IsEndText ending.Mended) script bs text → IsTracedMended IsGiven bs text
  unfolding ran_to_end
  mended_of h = record {
    end = h.told.0;
    report = h.report;
    mended = record {
      both = record {
        before = h.over.before;
        ran = ran_to_end IsGiven script given bs h.over.before printed.Report h.over.report h.over.run;
        done = h.told.1.done;
        mended = h.told.1.mended;
        replayed = replays_grow h.over.run.left.opening script h.over.run.drive.world.history h.over.run.left.after (entry.Mended h.told.1.done) h.told.1.mended.after h.over.run.left.replayed h.told.1.mended.mends;
      };
      written = h.told.1.written;
    };
    written = h.written;
  }

  refused_of : (f : Finding) → IsTracedIn (IsRefusalText ending.Mended f) script bs text → IsTracedUnmended IsGiven bs f text
  unfolding ran_to_end
  refused_of f h =
      let run = h.over.run in
      record {
        end = h.told.0;
        refusal = h.report;
        unmended = record {
          unmended = record {
            ran = ran_to_end IsGiven script given bs h.told.0 printed.Report h.over.report
                (record { drive = record { world = run.drive.world; ran = run.drive.ran; image = h.told.1.image }; walked = run.walked; over = run.over; left = run.left; written = run.written });
            roomless = h.told.1.roomless;
          };
          written = h.told.1.written;
        };
        written = h.written;
      }

-- ---- of the script that is read

module _ (bytes : List ℕ) (script : Script) (spelt : SpellsWithin script bytes) (size : ℕ) (old new : List Block) where
  trace_of : (e : Ending) (text : List ℕ) → IsTracedIn (IsEndText e) script old text → IsTraceOf (Some (wanted e)) bytes old text
  trace_of ending.Report text h = report_of (IsScriptOf bytes) script spelt.spelt old text h
  trace_of ending.Mended text h = mended_of (IsScriptOf bytes) script spelt.spelt old text h

  pub traced_of : (e : Ending) (text : List ℕ) → IsInside size × (IsTracedIn (IsEndText e) script old text × (new ≡ old)) → IsTracedOf e bytes size old new text
  traced_of e text h = record {
    good = good bytes script spelt;
    accepted = record { inside = h.0; accepted = h.1.0.over.run.left.accepted };
    traced = trace_of e text h.1.0;
    left = h.1.1;
  }

  end_of : (read reading had has : ℕ) (s : Status) → IsImageEndOf size old had has s × (new ≡ old) → IsRunEnd bytes size old new read reading had has 0 0 s × (new ≡ old)
  end_of read reading had has status.ImageFault h = ((good bytes script spelt, h.0, h.1, refl), h.1)
  end_of read reading had has (status.BadSize n) h = (((good bytes script spelt, h.0.0, h.0.1), h.1), h.1)
  end_of read reading had has (status.NotAccepted f) h = (((good bytes script spelt, h.0.0, h.0.1), h.1), h.1)
  end_of read reading had has status.NoMemory h = (inl h.1, h.1)
  end_of read reading had has s h = absurd h.0

  pub halt_of : (e : Ending) (read reading had has : ℕ) (x : Halt) → IsImageHaltOf e script size old had has x × (new ≡ old) → IsTraceHalt e bytes size old new read reading had has x
  halt_of e read reading had has (halt.Cut text) h = h.0
  halt_of e read reading had has halt.NoLines h = h.0
  halt_of ending.Report read reading had has (halt.Unmended text f) h = h.0.1.told
  halt_of ending.Mended read reading had has (halt.Unmended text f) h = record {
    good = good bytes script spelt;
    accepted = record { inside = h.0.0; accepted = h.0.1.over.run.left.accepted };
    traced = refused_of (IsScriptOf bytes) script spelt.spelt old text.items f h.0.1;
    left = h.1;
  }
  halt_of e read reading had has (halt.By s) h = end_of read reading had has s h
