-- The report of a run is the report of a history that replays, and the image has what the run wrote.
use Rattle.std.proofs.Common.{◌≡◌, ◌∙◌, ◌⊎◌, ℕ, true, List, Option, Result, Some, Err, All, length, refl, sym, ap, subst, arith, inl, inr}
use Rattle.std.specs.Prelude.{slice_index_or, OnErr}
use Rattle.base_words.specs.Fields.{Block}
use Rattle.base_words.specs.Faults.{Rose}
use Rattle.plain_cat.specs.declared.cat.Cat.{Cat}
use Rattle.plain_cat.specs.declared.script.Script.{Script}
use Rattle.plain_rules.specs.Own.{Whole, Killed}
use Rattle.plain_rules.specs.Replaying.{Replays}
use Rattle.vol_parts.specs.declared.geometry.Geometry.{Geometry}
use Rattle.plain_cat.specs.InForm.{InForm, is_within}
use Rattle.run_script.proofs.Pieces.{limits}
use Rattle.blk_drive.specs.Telling.{IsTold, told_as}
use Rattle.core_state.specs.Deaths.{after_step}
use Rattle.core_state.specs.Worlds.{Plain, IsOfWorld}
use Rattle.core_state.specs.Goods.{Good}
use Rattle.core_state.specs.Mounting.{IsMounted, IsMountEnd}
use Rattle.core_state.specs.declared.mounting.MountFault.{MountFault}
use Rattle.core_state.specs.declared.mounting.MountFault.TheVariants as mount
use Rattle.run_engine.specs.declared.fault.RunFault.{RunFault}
use Rattle.run_engine.specs.declared.fault.RunFault.TheVariants as run
use Rattle.run_engine.specs.Walks.{played, budget_of, IsPartOfWalk, IsRotatedIn, IsNextIn, IsBeforeWrite, IsBeforeTaking, Stays}
use Rattle.core_state.specs.Ends.{AllOver}
use Rattle.run_engine.specs.Ended.{IsSpelt, HasEnded}
use Rattle.run_engine.proofs.Driving.{told_well}
use Rattle.run_engine.specs.Stops.{IsStopOf, mount_status}
use Rattle.run_engine.specs.Inputs.{Leaves}
use Rattle.run_engine.specs.Texts.{cut_text}
use Rattle.run_engine.proofs.Given.{torn_leaves}
use Rattle.run_engine.proofs.Results.{on_err, same_err}
use Rattle.clus_top.specs.Runs.{HasRun, LacksMemory}
use Rattle.run_engine.specs.declared.stop.Stop.{Stop}
use Rattle.run_engine.specs.declared.stop.Stop.TheVariants as stop
use Rattle.clus_top.specs.declared.run_job.Printed.{Printed}
use Rattle.clus_top.specs.Ends.{printed_text, IsWholeIn, IsDriveIn, IsEndIn, IsLackingIn, IsCutShortIn, IsStopIn, IsStopBy}
use Rattle.run_engine.proofs.Walked.{over_walk}
use Rattle.clus_top.proofs.Used.{walk_keeps, walk_uses}
use Rattle.clus_top.proofs.Stopping.{starts_accepted}
use Rattle.run_engine.proofs.StopsStopping.{runs_can_stop}
use Rattle.clus_top.proofs.Answered.{IsAnswered, step_keeps}
use Rattle.run_engine.proofs.MountedVolumes.{mounted_geometry}

-- ---- a run on a mounted volume

module _ (start : Plain) (good : Good start) (m : IsMounted start.blocks start.script start) where
  -- the history of a volume that is just mounted is empty
  pub answered : IsAnswered start
  answered = subst IsAnswered (sym m.is) (record { orderly = (tt, refl) })

  -- a run on it
  unfoldable pub has_run : (new : Plain) (plays : List ℕ) → plays ≡ start.script.plays → IsPartOfWalk start plays new → Good new → HasRun start.script start.blocks new
  has_run new plays same part keeps = record {
    start = start;
    mounted = m;
    parts = mounted_geometry start.blocks start.script start good m;
    walked = subst (λ (ns : List ℕ). IsPartOfWalk start ns new) same part;
    used = walk_uses start good start.script.plays;
    stop = λ w walked. runs_can_stop start w start.script.plays (starts_accepted start.blocks start.script start m) walked (walk_keeps start good start.script.plays w walked);
    good = keeps;
  }

  unfoldable pub drive_in : (new : Plain) (plays : List ℕ) → plays ≡ start.script.plays → IsPartOfWalk start plays new → Good new → IsDriveIn start.script start.blocks new.blocks
  drive_in new plays same part keeps = record { world = new; ran = has_run new plays same part keeps; image = refl }

  -- a run that lacks memory
  pub lacking_in : (new : Plain) (plays : List ℕ) → plays ≡ start.script.plays → IsPartOfWalk start plays new → Good new → LacksMemory start plays new → IsLackingIn start.script start.blocks new.blocks
  unfolding drive_in has_run
  lacking_in new plays same part keeps lacks = record {
    drive = drive_in new plays same part keeps;
    lacks = subst (λ (ns : List ℕ). LacksMemory start ns new) same lacks;
  }

  -- a run that a write cut short
  pub cut_in : (new : Plain) (plays : List ℕ) (told now : Option (List Block)) → plays ≡ start.script.plays → IsPartOfWalk start plays new → Good new → IsTold told start.blocks
      → IsBeforeWrite (IsNextIn start plays new) start.blocks told now new → Leaves told now (λ left. IsCutShortIn start.script start.blocks left (cut_text new.history))
  unfolding has_run
  cut_in new plays told now same part keeps shows before =
      torn_leaves told now start.blocks new.blocks (after_step new before.node).blocks (λ left. IsCutShortIn start.script start.blocks left (cut_text new.history)) (before.image shows)
      (λ left torn. record {
        cut = record {
          world = new;
          ran = has_run new plays same part keeps;
          before = subst (λ (ns : List ℕ). IsBeforeWrite (IsNextIn start ns new) start.blocks (Some start.blocks) (Some left) new) same
              (record { node = before.node; next = before.next; turn = before.turn; write = before.write; image = λ h. torn });
        };
        written = refl;
      })

  -- a run that stopped by this fault
  pub run_stop : {A : Type 0} (new : Plain) (plays : List ℕ) (told now : Option (List Block)) (had has : ℕ) (r : Result A RunFault) (f : RunFault) → r ≡ Err f
      → plays ≡ start.script.plays → OnErr r (IsPartOfWalk start plays new) → Good new
      → (r ≡ Err run.ImageFault → Rose had has) → (r ≡ Err run.ImageFault → IsBeforeWrite (IsNextIn start plays new) start.blocks told now new)
      → (r ≡ Err run.NoMemory → IsBeforeTaking (IsNextIn start plays new) new)
      → (now ≡ told_as told new.blocks) ⊎ (r ≡ Err run.ImageFault) → IsTold told start.blocks
      → (s : Stop) → IsStopOf new f s → Leaves told now (λ left. IsStopBy start.script start.blocks left had has s)
  run_stop {A} new plays told now had has r run.ImageFault is same part keeps cause before taking image shows (stop.Cut text) written =
      let c = cut_in new plays told now same (on_err r run.ImageFault (IsPartOfWalk start plays new) is part) keeps shows (before is) in
      record { new = c.new; left = c.left; holds = (cause is, record { cut = c.holds.cut; written = written ∙ c.holds.written }) }
  run_stop {A} new plays told now had has r run.ImageFault is same part keeps cause before taking image shows stop.NoLines none =
      let c = cut_in new plays told now same (on_err r run.ImageFault (IsPartOfWalk start plays new) is part) keeps shows (before is) in
      record { new = c.new; left = c.left; holds = (cause is, c.holds.cut) }
  run_stop {A} new plays told now had has r run.ImageFault is same part keeps cause before taking image shows (stop.By s) none = absurd none
  run_stop {A} new plays told now had has r run.NoMemory is same part keeps cause before taking image shows s e = record {
    new = new.blocks;
    left = told_well (r ≡ Err run.ImageFault) _ _ image (λ p. let f : run.NoMemory ≡ run.ImageFault = same_err r run.NoMemory run.ImageFault is p in cc);
    holds = subst (IsStopBy start.script start.blocks new.blocks had has) (sym e) (inr (lacking_in new plays same (on_err r run.NoMemory (IsPartOfWalk start plays new) is part) keeps (inl (taking is))));
  }

  pub led : (c d : Cat) (s : Script) (new : Plain) → s ≡ start.script → c ≡ start.opening → Replays c s new.history d → Replays m.opening start.script new.history d
  led c d s new script first h =
      let opening : start.opening ≡ m.opening = ap (λ (v : Plain). v.opening) m.is in
      subst (λ (x : Cat). Replays x start.script new.history d) (first ∙ opening) (subst (λ (t : Script). Replays c t new.history d) script h)

  -- the history of a world that has come to its end replays, and its drive spells the catalogue to which it leads
  unfoldable pub whole_in : (new : Plain) → Stays start new → IsAnswered new → Whole new.script new.history → (c : Cat) → HasEnded new c → IsWholeIn start.script start.blocks start.geometry new
  whole_in new stays orderly whole c end = record {
    opening = m.opening;
    after = c;
    accepted = m.accepted;
    told = m.told;
    replayed = led new.opening c new.script new stays.script stays.opening end.replayed;
    whole = subst (λ (s : Script). Whole s new.history) stays.script whole;
    killed = subst (λ (s : Script). Killed s new.history) stays.script orderly.orderly.0;
    unmended = orderly.orderly.1;
    left = subst (λ (g : Geometry). IsSpelt g new.blocks c) stays.geometry end.drive;
  }

  -- a run that has come to its end
  unfoldable pub end_in : (what : Printed) (new : Plain) (plays : List ℕ) (text : List ℕ) → plays ≡ start.script.plays → IsRotatedIn (budget_of start) (played plays start) new → AllOver new → Good new
      → Stays start new → Whole new.script new.history → (c : Cat) × HasEnded new c × (text ≡ printed_text what new c)
      → IsEndIn what start.script start.blocks new.blocks text
  unfolding drive_in has_run whole_in
  end_in what new plays text same walk over keeps stays whole end = record {
    drive = drive_in new plays same (inr (walk.turns, walk.at)) keeps;
    walked = subst (λ (ns : List ℕ). IsRotatedIn (budget_of start) (played ns start) new) same walk;
    over = over;
    left = whole_in new stays (over_walk IsAnswered step_keeps start plays new (walk.turns, walk.at) answered) whole end.0 end.1;
    written = end.2;
  }

-- what is said of a mounted volume is said of its blocks
pub end_of_mounted : (what : Printed) (bs : List Block) (s : Script) (w : Plain) (new : List Block) (text : List ℕ) → IsMounted bs s w
    → IsEndIn what w.script w.blocks new text → IsEndIn what s bs new text
end_of_mounted what bs s w new text m h =
    subst (λ (t : Script). IsEndIn what t bs new text) (ap (λ (v : Plain). v.script) m.is) (subst (λ (b : List Block). IsEndIn what w.script b new text) (ap (λ (v : Plain). v.blocks) m.is) h)

pub stop_of_mounted : (bs : List Block) (s : Script) (w : Plain) (new : List Block) (had has : ℕ) (x : Stop) → IsMounted bs s w
    → IsStopBy w.script w.blocks new had has x → IsStopBy s bs new had has x
stop_of_mounted bs s w new had has x m h =
    subst (λ (t : Script). IsStopBy t bs new had has x) (ap (λ (v : Plain). v.script) m.is) (subst (λ (b : List Block). IsStopBy w.script b new had has x) (ap (λ (v : Plain). v.blocks) m.is) h)

pub mount_stop : (s : Script) (bs : List Block) (f : MountFault) → IsMountEnd bs f → IsStopIn s bs bs (mount_status f)
mount_stop s bs (mount.NotAccepted f) h = (h, refl)
mount_stop s bs mount.NoMemory h = inl refl

-- ---- plays

of_world : (w : Plain) (n : ℕ) → length w.nodes ≡ w.script.nodes → is_within 1 w.script.nodes n ≡ true → IsOfWorld w n
of_world w n count h = let l = limits 1 w.script.nodes n h in record { from = l.0; to = omega (arith, l, count) }

-- the plays of a script are of the nodes of its world
pub plays_of_world : (w : Plain) → length w.nodes ≡ w.script.nodes → InForm w.script → All (IsOfWorld w) w.script.plays
plays_of_world w count form = λ k d lt. of_world w (slice_index_or w.script.plays k d) count (form.plays k d lt)
