-- A run of the script of a job: what is printed of it, and what the image has.
use Rattle.std.proofs.Common.{ℕ, List, Some, refl, inl, inr}
use Rattle.base_words.specs.Fields.{Block}
use Rattle.blk_drive.specs.Images.{IsInside}
use Rattle.plain_cat.specs.declared.script.Script.{Script}
use Rattle.run_engine.specs.declared.status.Status.{Status}
use Rattle.run_engine.specs.declared.status.Status.TheVariants as status
use Rattle.run_engine.specs.Scripts.{IsScriptOf, SpellsWithin, IsScriptEnd}
use Rattle.run_engine.proofs.Given.{good}
use Rattle.clus_top.specs.Runs.{IsSoakOf, HasRunToEnd}
use Rattle.run_engine.specs.declared.stop.Stop.{Stop}
use Rattle.run_engine.specs.declared.stop.Stop.TheVariants as stop
use Rattle.clus_top.specs.declared.run_job.Printed.{Printed}
use Rattle.clus_top.specs.declared.run_job.Printed.TheVariants as printed
use Rattle.clus_top.specs.Ends.{IsDriveIn, IsEndIn, IsLackingIn, IsCutIn, IsCutShortIn, IsImageEnd, IsImageStop, IsReported, IsSummarized, IsRunEnd, IsRunStop, IsSoakEnd, IsSoakStop}
use Rattle.clus_top.proofs.Stopping.{torn_stops}
use Rattle.clus_top.specs.Images.{IsDriveOf, IsLastDriveOf, IsLackingDriveOf, IsCutOf, IsCutShort}

module _ (IsGiven : Script → Type 0) (script : Script) (given : IsGiven script) (bs new : List Block) where
  -- ---- the drive of a run

  drive_of : IsDriveIn script bs new → IsDriveOf IsGiven bs new
  drive_of d = record { script = script; given = given; world = d.world; ran = d.ran; image = d.image }

  pub lacking_of : IsLackingIn script bs new → IsLackingDriveOf IsGiven bs new
  unfolding drive_of
  lacking_of h = (drive_of h.drive, h.lacks)

  pub last_of : (what : Printed) (text : List ℕ) → IsEndIn what script bs new text → IsLastDriveOf IsGiven bs new
  unfolding drive_of
  last_of what text h = (drive_of h.drive, h.over)

  pub cut_of : IsCutIn script bs new → IsCutOf IsGiven bs new
  cut_of h = record { script = script; given = given; world = h.world; ran = h.ran; before = h.before; torn = torn_stops script bs h.world (Some new) h.ran h.before }

  pub short_of : (text : List ℕ) → IsCutShortIn script bs new text → IsCutShort IsGiven bs new text
  unfolding cut_of
  short_of text h = record { cut = cut_of h.cut; written = h.written }

  -- ---- what is printed of a run

  unfoldable pub ran_to_end : (what : Printed) (text : List ℕ) → IsEndIn what script bs new text → HasRunToEnd IsGiven bs new
  ran_to_end what text h = record {
    script = script;
    start = h.drive.ran.start;
    world = h.drive.world;
    opening = h.left.opening;
    after = h.left.after;
    given = given;
    accepted = h.left.accepted;
    mounted = h.drive.ran.mounted;
    walked = h.walked;
    used = h.drive.ran.used;
    stop = h.drive.ran.stop;
    over = h.over;
    told = h.left.told;
    replayed = h.left.replayed;
    whole = h.left.whole;
    killed = h.left.killed;
    unmended = h.left.unmended;
    parts = h.drive.ran.parts;
    image = h.drive.image;
    left = h.left.left;
  }

-- ---- a script that is read

module _ (bytes : List ℕ) (script : Script) (spelt : SpellsWithin script bytes) (size : ℕ) (old new : List Block) where
  pub reported : (text : List ℕ) → IsInside size → IsEndIn printed.Report script old new text → IsReported bytes size old new text
  unfolding ran_to_end
  reported text inside h = record {
    good = good bytes script spelt;
    accepted = record { inside = inside; accepted = h.left.accepted };
    report = record { ran = ran_to_end (IsScriptOf bytes) script spelt.spelt old new printed.Report text h; written = h.written };
    drive = last_of (IsScriptOf bytes) script spelt.spelt old new printed.Report text h;
  }

  -- why the image gave no end is why the run gave no report
  pub run_end : (read reading had has lost losing : ℕ) (s : Status) → IsImageEnd script size old new had has lost losing s → IsRunEnd bytes size old new read reading had has lost losing s
  run_end read reading had has lost losing status.ImageFault end = (good bytes script spelt, end.0, end.1, end.2)
  run_end read reading had has lost losing (status.BadSize n) end = ((good bytes script spelt, end.0.0, end.0.1), end.1)
  run_end read reading had has lost losing (status.NotAccepted f) end = ((good bytes script spelt, end.0.0, end.0.1), end.1)
  run_end read reading had has lost losing status.NoMemory (inl e) = inl e
  run_end read reading had has lost losing status.NoMemory (inr d) = inr (lacking_of (IsScriptOf bytes) script spelt.spelt old new d)
  run_end read reading had has lost losing s end = absurd end

  pub run_stop : (read reading had has lost losing : ℕ) (s : Stop) → IsImageStop script size old new had has lost losing s → IsRunStop bytes size old new read reading had has lost losing s
  run_stop read reading had has lost losing (stop.Cut text) end = (good bytes script spelt, end.0, short_of (IsScriptOf bytes) script spelt.spelt old new text.items end.1)
  run_stop read reading had has lost losing stop.NoLines end = (good bytes script spelt, end.0, cut_of (IsScriptOf bytes) script spelt.spelt old new end.1)
  run_stop read reading had has lost losing (stop.By s) end = run_end read reading had has lost losing s end

-- why there is no script is why the run gave no report, and the image stays
pub script_end : (bytes : List ℕ) (size : ℕ) (bs : List Block) (read reading had has lost losing : ℕ) (s : Status) → IsScriptEnd bytes read reading s → IsRunEnd bytes size bs bs read reading had has lost losing s
script_end bytes size bs read reading had has lost losing status.ScriptFault h = (h, refl)
script_end bytes size bs read reading had has lost losing status.ScriptTooLong h = (h, refl)
script_end bytes size bs read reading had has lost losing (status.BadScript n) h = (h, refl)
script_end bytes size bs read reading had has lost losing status.TooMany h = (h, refl)
script_end bytes size bs read reading had has lost losing status.NoMemory h = inl refl
script_end bytes size bs read reading had has lost losing s h = absurd h

-- ---- a script that is drawn

module _ (n : ℕ) (script : Script) (drawn : IsSoakOf n script) (size : ℕ) (old new : List Block) where
  pub summarized : (text : List ℕ) → IsInside size → IsEndIn (printed.Summary n) script old new text → IsSummarized n size old new text
  unfolding ran_to_end
  summarized text inside h = record {
    accepted = record { inside = inside; accepted = h.left.accepted };
    summary = record { ran = ran_to_end (IsSoakOf n) script drawn old new (printed.Summary n) text h; written = h.written };
    drive = last_of (IsSoakOf n) script drawn old new (printed.Summary n) text h;
  }

  -- why the image gave no end is why the soak gave no summary
  soak_end : (had has lost losing : ℕ) (s : Status) → IsImageEnd script size old new had has lost losing s → IsSoakEnd n size old new had has lost losing s
  soak_end had has lost losing status.ImageFault end = end
  soak_end had has lost losing (status.BadSize k) end = end
  soak_end had has lost losing (status.NotAccepted f) end = end
  soak_end had has lost losing status.NoMemory (inl e) = inl e
  soak_end had has lost losing status.NoMemory (inr d) = inr (lacking_of (IsSoakOf n) script drawn old new d)
  soak_end had has lost losing s end = absurd end

  pub soak_stop : (had has lost losing : ℕ) (s : Stop) → IsImageStop script size old new had has lost losing s → IsSoakStop n size old new had has lost losing s
  soak_stop had has lost losing (stop.Cut text) end = (end.0, short_of (IsSoakOf n) script drawn old new text.items end.1)
  soak_stop had has lost losing stop.NoLines end = (end.0, cut_of (IsSoakOf n) script drawn old new end.1)
  soak_stop had has lost losing (stop.By s) end = soak_end had has lost losing s end
