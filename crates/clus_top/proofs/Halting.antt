-- A run whose drive is mended then: what is said of its steps is said of the whole.
use Rattle.std.proofs.Common.{◌≡◌, ◌≤◌, ◌⊎◌, ℕ, List, Option, refl, ap, subst, inl, inr}
use Rattle.base_words.specs.Fields.{Block}
use Rattle.blk_drive.specs.Images.{IsInside}
use Rattle.plain_cat.specs.declared.cat.Cat.{Cat}
use Rattle.plain_cat.specs.declared.script.Script.{Script}
use Rattle.plain_cat.specs.declared.history.Entry.TheVariants as entry
use Rattle.plain_rules.specs.Own.{Whole}
use Rattle.plain_past.proofs.Growing.{replays_grow}
use Rattle.vol_parts.specs.declared.finding.Finding.{Finding}
use Rattle.core_state.specs.Worlds.{Plain}
use Rattle.core_state.specs.Goods.{Good}
use Rattle.blk_drive.specs.Telling.{told_as}
use Rattle.core_state.specs.Mounting.{IsMounted, IsMountEnd}
use Rattle.core_state.specs.declared.mounting.MountFault.{MountFault}
use Rattle.run_engine.specs.Inputs.{Leaves}
use Rattle.run_engine.specs.Walks.{played, budget_of, IsRotatedIn, Stays}
use Rattle.core_state.specs.Ends.{AllOver}
use Rattle.run_engine.specs.Ended.{HasEnded}
use Rattle.run_engine.proofs.Ending.{over_is_spelt}
use Rattle.run_engine.specs.declared.stop.Stop.{Stop}
use Rattle.run_engine.specs.declared.stop.Stop.TheVariants as stop
use Rattle.run_engine.specs.Scripts.{IsScriptOf, SpellsWithin}
use Rattle.run_engine.specs.Stops.{report_text, mount_status}
use Rattle.run_engine.specs.Halts.{halt_of, IsMendedBy, IsHaltBy}
use Rattle.run_engine.proofs.Given.{rose_later, good, leaves_has}
use Rattle.run_engine.proofs.MendedDrives.{left_then}
use Rattle.clus_top.specs.declared.run_job.Printed.TheVariants as printed
use Rattle.run_engine.specs.declared.over_mending.Halt.{Halt}
use Rattle.run_engine.specs.declared.over_mending.Halt.TheVariants as halt
use Rattle.clus_top.specs.MendedRuns.{IsMendedReport, IsPartlyMended}
use Rattle.clus_top.specs.Images.{IsCutOf, IsCutShort, IsMendingCutShort, IsUnmendedText}
use Rattle.clus_top.specs.Ends.{IsEndIn, IsCutIn, IsCutShortIn, IsStopBy}
use Rattle.clus_top.specs.Halts.{IsOverIn, IsMendedIn, IsPartlyIn, IsMendingCutIn, IsUnmendedIn, IsHaltIn, IsImageHalt, IsMendedWith, IsRunHalt}
use Rattle.clus_top.proofs.Imaged.{quiet_on}
use Rattle.clus_top.proofs.Reported.{has_run, drive_in, whole_in, end_in, mount_stop}
use Rattle.clus_top.proofs.Jobs.{run_end, short_of, cut_of, ran_to_end}

pub rest : {A B : Type 0} → A × B → B
rest p = p.1

-- ---- a run that has come to its end, and the mending behind it

module _ (start : Plain) (keeps : Good start) (m : IsMounted start.blocks start.script start) (new : Plain) (plays : List ℕ) (told now : Option (List Block)) (same : plays ≡ start.script.plays)
    (walk : IsRotatedIn (budget_of start) (played plays start) new) (over : AllOver new) (good_new : Good new) (stays : Stays start new) (whole : Whole new.script new.history) (image : now ≡ told_as told new.blocks) where
  left : (c : Cat) × HasEnded new c
  left = over_is_spelt new good_new over

  run_in : IsEndIn printed.Report start.script start.blocks new.blocks (report_text new.history left.0)
  run_in = end_in start keeps m printed.Report new plays (report_text new.history left.0) same walk over good_new stays whole (left.0, left.1, refl)

  over_in : IsOverIn start.script start.blocks
  over_in = record { before = new.blocks; report = report_text new.history left.0; run = run_in }

  pub mended_in : (final : Option (List Block)) (text : List ℕ) → ((c : Cat) → HasEnded new c → Leaves now final (λ bs. IsMendedBy new c bs text)) → Leaves told final (λ bs. IsMendedIn start.script start.blocks bs text)
  unfolding over_in run_in end_in drive_in has_run whole_in
  mended_in final text h = leaves_has told final (λ bs. IsMendedBy new left.0 bs text) (λ bs. IsMendedIn start.script start.blocks bs text) (λ bs r. (over_in, r)) (left_then told now final new.blocks (λ bs. IsMendedBy new left.0 bs text) image (h left.0 left.1))

  halted : (bs : List Block) (had mid has : ℕ) (x : Halt) → had ≤ mid → IsHaltBy new left.0 bs mid has x → IsHaltIn start.script start.blocks bs had has x
  unfolding over_in run_in end_in drive_in has_run whole_in
  halted bs had mid has (halt.Cut text) le r = (rose_later had mid has le r.0, inr ((over_in, r.1), r.2))
  halted bs had mid has halt.NoLines le r = (rose_later had mid has le r.0, inr (over_in, r.1))
  halted bs had mid has (halt.Unmended text f) le r = (over_in, r)
  halted bs had mid has (halt.By s) le r = inr (r.0, (over_in, r.1))

  pub halt_in : (final : Option (List Block)) (had mid has : ℕ) (x : Halt) → had ≤ mid → ((c : Cat) → HasEnded new c → Leaves now final (λ bs. IsHaltBy new c bs mid has x))
      → Leaves told final (λ bs. IsHaltIn start.script start.blocks bs had has x)
  halt_in final had mid has x le h =
      leaves_has told final (λ bs. IsHaltBy new left.0 bs mid has x) (λ bs. IsHaltIn start.script start.blocks bs had has x) (λ bs r. halted bs had mid has x le r)
      (left_then told now final new.blocks (λ bs. IsHaltBy new left.0 bs mid has x) image (h left.0 left.1))

-- why a run came to no end
pub stop_halts : (script : Script) (bs new : List Block) (had has : ℕ) (s : Stop) → IsStopBy script bs new had has s → IsHaltIn script bs new had has (halt_of s)
stop_halts script bs new had has (stop.Cut text) end = (end.0, inl end.1)
stop_halts script bs new had has stop.NoLines end = (end.0, inl end.1)
stop_halts script bs new had has (stop.By s) end = inl end

-- ---- what is said of a mounted volume is said of its blocks

pub mended_of_mounted : (bs : List Block) (s : Script) (w : Plain) (new : List Block) (text : List ℕ) → IsMounted bs s w → IsMendedIn w.script w.blocks new text → IsMendedIn s bs new text
mended_of_mounted bs s w new text m h =
    subst (λ (t : Script). IsMendedIn t bs new text) (ap (λ (v : Plain). v.script) m.is) (subst (λ (b : List Block). IsMendedIn w.script b new text) (ap (λ (v : Plain). v.blocks) m.is) h)

pub halt_of_mounted : (bs : List Block) (s : Script) (w : Plain) (new : List Block) (had has : ℕ) (x : Halt) → IsMounted bs s w
    → IsHaltIn w.script w.blocks new had has x → IsHaltIn s bs new had has x
halt_of_mounted bs s w new had has x m h =
    subst (λ (t : Script). IsHaltIn t bs new had has x) (ap (λ (v : Plain). v.script) m.is) (subst (λ (b : List Block). IsHaltIn w.script b new had has x) (ap (λ (v : Plain). v.blocks) m.is) h)

pub mount_halt : (s : Script) (bs : List Block) (had has : ℕ) (f : MountFault) → IsMountEnd bs f → IsHaltIn s bs bs had has (halt.By (mount_status f))
mount_halt s bs had has f h = inl (mount_stop s bs f h)

-- ---- on an image

pub halt_on : (script : Script) (size : ℕ) (old new : List Block) (first had has lost losing : ℕ) (x : Halt) → IsInside size → first ≤ had → IsHaltIn script old new had has x → IsImageHalt script size old new first has lost losing x
halt_on script size old new first had has lost losing (halt.Cut text) inside later end = (rose_later first had has later end.0, end.1)
halt_on script size old new first had has lost losing halt.NoLines inside later end = (rose_later first had has later end.0, end.1)
halt_on script size old new first had has lost losing (halt.Unmended text f) inside later end = (record { inside = inside; accepted = end.0.run.left.accepted }, end)
halt_on script size old new first had has lost losing (halt.By s) inside later (inl end) = inl (quiet_on script size old new first has lost losing s inside end)
halt_on script size old new first had has lost losing (halt.By s) inside later (inr end) = inr end

-- ---- the script of a job

module _ (IsGiven : Script → Type 0) (script : Script) (given : IsGiven script) (bs new : List Block) where
  partly_of : IsPartlyIn script bs new → IsPartlyMended IsGiven bs new
  unfolding ran_to_end
  partly_of p = record { before = p.0.before; ran = ran_to_end IsGiven script given bs p.0.before printed.Report p.0.report p.0.run; still = p.1 }

  pub report_of : (text : List ℕ) → IsMendedIn script bs new text → IsMendedReport IsGiven bs new text
  unfolding ran_to_end
  report_of text p = record {
    both = record {
      before = p.0.before;
      ran = ran_to_end IsGiven script given bs p.0.before printed.Report p.0.report p.0.run;
      done = p.1.done;
      mended = p.1.mended;
      replayed = replays_grow p.0.run.left.opening script p.0.run.drive.world.history p.0.run.left.after (entry.Mended p.1.done) p.1.mended.after p.0.run.left.replayed p.1.mended.mends;
    };
    written = p.1.written;
  }

  unmended_of : (f : Finding) (text : List ℕ) → IsUnmendedIn script bs new f text → IsUnmendedText IsGiven bs new f text
  unfolding ran_to_end
  unmended_of f text p = record {
    unmended = record {
      ran = ran_to_end IsGiven script given bs new printed.Report p.0.report
          (record { drive = record { world = p.0.run.drive.world; ran = p.0.run.drive.ran; image = p.1.image }; walked = p.0.run.walked; over = p.0.run.over; left = p.0.run.left; written = p.0.run.written });
      roomless = p.1.roomless;
    };
    written = p.1.written;
  }

  cut_behind : (text : List ℕ) → IsMendingCutIn script bs new text → IsMendingCutShort IsGiven bs new text
  unfolding partly_of ran_to_end
  cut_behind text p = record { part = partly_of p.0; written = p.1 }

  short_or_behind : (text : List ℕ) → IsCutShortIn script bs new text ⊎ IsMendingCutIn script bs new text → IsCutShort IsGiven bs new text ⊎ IsMendingCutShort IsGiven bs new text
  short_or_behind text (inl h) = inl (short_of IsGiven script given bs new text h)
  short_or_behind text (inr h) = inr (cut_behind text h)

  cut_or_partly : IsCutIn script bs new ⊎ IsPartlyIn script bs new → IsCutOf IsGiven bs new ⊎ IsPartlyMended IsGiven bs new
  cut_or_partly (inl h) = inl (cut_of IsGiven script given bs new h)
  cut_or_partly (inr h) = inr (partly_of h)

-- ---- a script that is read

module _ (bytes : List ℕ) (script : Script) (spelt : SpellsWithin script bytes) (size : ℕ) (old new : List Block) where
  pub mended_with : (text : List ℕ) → IsInside size → IsMendedIn script old new text → IsMendedWith bytes size old new text
  mended_with text inside h = record {
    good = good bytes script spelt;
    accepted = record { inside = inside; accepted = h.0.run.left.accepted };
    report = report_of (IsScriptOf bytes) script spelt.spelt old new text h;
  }

  -- why the image gave no mended end is why the run has no report
  pub run_halt : (read reading had has lost losing : ℕ) (x : Halt) → IsImageHalt script size old new had has lost losing x → IsRunHalt bytes size old new read reading had has lost losing x
  run_halt read reading had has lost losing (halt.Cut text) end = (good bytes script spelt, end.0, short_or_behind (IsScriptOf bytes) script spelt.spelt old new text.items end.1)
  run_halt read reading had has lost losing halt.NoLines end = (good bytes script spelt, end.0, cut_or_partly (IsScriptOf bytes) script spelt.spelt old new end.1)
  run_halt read reading had has lost losing (halt.Unmended text f) end = (good bytes script spelt, end.0, unmended_of (IsScriptOf bytes) script spelt.spelt old new f text.items (rest end))
  run_halt read reading had has lost losing (halt.By s) (inl end) = inl (run_end bytes script spelt size old new read reading had has lost losing s end)
  run_halt read reading had has lost losing (halt.By s) (inr end) = inr (end.0, partly_of (IsScriptOf bytes) script spelt.spelt old new (rest end))
