-- What is kept of a mounted world says what the end of its threads is.
use Rattle.std.proofs.Common.{◌≡◌, ◌∙◌, ◌⊎◌, ℕ, List, [], ◌∷◌, take, Option, Some, None, true, is_some, Result, Ok, Err, refl, sym, ap, subst, inl, inr}
use Rattle.std.specs.Prelude.{OnOk}
use Rattle.base_words.specs.Fields.{Block}
use Rattle.plain_cat.specs.declared.cat.Cat.{Cat}
use Rattle.plain_cat.specs.declared.script.Script.{Script}
use Rattle.plain_cat.specs.declared.history.Entry.TheVariants as entry
use Rattle.plain_rules.specs.Own.{Whole, Own}
use Rattle.plain_rules.specs.Replaying.{Replays}
use Rattle.plain_past.proofs.Growing.{replays_grow}
use Rattle.vol_parts.specs.Findings.{Accepts, CatOf}
use Rattle.blk_drive.specs.Telling.{IsTold}
use Rattle.blk_drive.specs.Telling.{told_as}
use Rattle.core_state.specs.Worlds.{Plain}
use Rattle.core_state.specs.Goods.{Good, HasOnly, IsAccepted}
use Rattle.core_state.specs.Uses.{UsesTheDrives}
use Rattle.core_state.specs.Mounting.{IsMounted, IsMountEnd}
use Rattle.core_state.specs.declared.mounting.MountFault.{MountFault}
use Rattle.core_state.specs.declared.mounting.MountFault.TheVariants as mount
use Rattle.op_law.specs.Laws.{Lawful}
use Rattle.core_step.specs.declared.turns.TurnFault.{TurnFault}
use Rattle.run_engine.specs.declared.fault.RunFault.{RunFault}
use Rattle.run_engine.specs.declared.fault.RunFault.TheVariants as run
use Rattle.core_state.specs.Ends.{AllOver}
use Rattle.run_engine.specs.Ended.{HasEnded}
use Rattle.run_engine.proofs.Ending.{over_is_spelt}
use Rattle.node_seat.specs.Keeping.{IsKept, IsOrderly, IsAtFailedWrite, start_of, telling}
use Rattle.node_seat.proofs.Acting.{is_told}
use Rattle.xqp_set.proofs.Every.{every_lawful}
use Rattle.core_state.proofs.Uses.{uses_right}
use Rattle.run_engine.specs.Torn.{CanStop, IsTornWorld}
use Rattle.run_engine.proofs.Worlds.{steps_keep_the_rules}
use Rattle.node_seat.specs.Steps.{stepped}
use Rattle.node_seat.proofs.Following.{Follows}
use Rattle.node_seat.proofs.Reaching.{steps_follow, reached_follows}
use Rattle.core_state.specs.Deaths.{after_step}
use Rattle.plain_cat.specs.declared.history.Entry.{Entry}
use Rattle.run_engine.proofs.StopsStopping.{goes_lawfully, world_can_stop, torn_worlds_can_stop}
use Rattle.xqp_set.specs.Built.{IsBuilt}
use Rattle.xqp_set.proofs.Forms.{filled_built, close_built}
use Rattle.run_engine.proofs.Commands.{only_such}
use Rattle.run_engine.specs.declared.stop.Stop.{Stop}
use Rattle.run_engine.specs.declared.stop.Stop.TheVariants as stop
use Rattle.run_engine.specs.declared.over_mending.Halt.{Halt}
use Rattle.run_engine.specs.declared.over_mending.Halt.TheVariants as halt
use Rattle.run_engine.specs.Stops.{report_text, mount_status, IsStopOf}
use Rattle.run_engine.specs.Inputs.{Leaves}
use Rattle.run_engine.specs.Mendings.{StillMends}
use Rattle.run_engine.specs.Halts.{halt_of, IsMendedBy, IsHaltBy}
use Rattle.run_engine.specs.Texts.{cut_text}
use Rattle.run_engine.proofs.Given.{rose_later, leaves_has}
use Rattle.run_engine.proofs.MendedDrives.{left_then}
use Rattle.run_engine.proofs.MountedVolumes.{mounted_geometry}
use Rattle.live_run.specs.declared.words.Job.{Job}
use Rattle.live_run.specs.declared.words.Job.TheVariants as job
use Rattle.live_run.specs.Rests.{run_mark, fault_mark}
use Rattle.live_run.specs.Lives.{IsWorldOf, IsLiveEnd, IsLiveCut, IsLiveDrive, IsLiveOver, IsLiveMended, IsLivePartly, IsEnd, IsCut, IsLacking}
use Rattle.live_run.specs.Ends.{IsToldOver, IsHaltOver, IsToldEnd, IsHaltAfter, IsQuiet, IsHalt}

tells_on : (told : Option (List Block)) (bs : List Block) → telling (is_some told) bs ≡ told_as told bs
tells_on None bs = refl
tells_on (Some x) bs = refl

-- ---- what holds of such a world besides

lawful : (w : Plain) → Good w → HasOnly Lawful w.script
lawful w good n h x e = every_lawful x (only_such IsBuilt filled_built close_built w.script good.form n h x e)

opened : (bs : List Block) (c : Cat) → Accepts bs → CatOf bs c → IsAccepted c
opened bs c accepted told = (bs, accepted, told)

uses : (w : Plain) → Good w → (n : ℕ) → UsesTheDrives w n
uses w good n = uses_right w good n (goes_lawfully w n good (lawful w good))

-- the rules are kept by steps
good_on : (ns : List ℕ) (w : Plain) → Good w → Good (stepped ns w)
good_on [] w good = good
good_on (n ∷ ns) w good = good_on ns (after_step w n) (steps_keep_the_rules w n good (goes_lawfully w n good (lawful w good)))

torn_by : (script : Script) (bs : List Block) (w : Plain) (new : List Block) → IsWorldOf script bs w → (f : IsAtFailedWrite true (Some new) w) → IsTornWorld w f.node (Some new)
torn_by script bs w new live f = torn_worlds_can_stop w f.node bs (Some new) (opened bs w.opening live.accepted live.told) (lawful w live.good) live.good f.turn f.write f.image

-- ---- of a job

-- a job has what its threads alone have
cut_as : (what : Job) (script : Script) (bs new : List Block) (text : List ℕ) → IsLiveCut script bs new text → IsCut what script bs new text
cut_as job.Live script bs new text c = c
cut_as job.LiveRebuild script bs new text c = inl c

lacking_as : (what : Job) (script : Script) (bs new : List Block) → IsLiveDrive script bs new → IsLacking what script bs new
lacking_as job.Live script bs new d = inl d
lacking_as job.LiveRebuild script bs new d = inl (inl d)

module _ (start : Plain) (good : Good start) (m : IsMounted start.blocks start.script start) (faults : ℕ) (told : Option (List Block)) where
  -- no node has died, and nothing was mended
  orderly_first : IsOrderly start.script start.history
  orderly_first = subst (λ (h : List Entry). IsOrderly start.script h) (sym (ap (λ (v : Plain). v.history) m.is)) (record { killed = tt; unmended = refl })

  -- a world behind it has the same opening, which is the catalogue that the blocks tell
  told_on : (w : Plain) → Follows start w → CatOf start.blocks w.opening
  told_on w follows = subst (λ (c : Cat). CatOf start.blocks c) (sym (follows.opening ∙ ap (λ (v : Plain). v.opening) m.is)) m.told

  stop_on : (ns : List ℕ) → CanStop (stepped ns start)
  stop_on ns =
      let w = stepped ns start in
      world_can_stop w (good_on ns start good) (opened start.blocks w.opening m.accepted (told_on w (steps_follow ns start)))

  module _ (w : Plain) (keeps : Good w) (f : ℕ) (new : Option (List Block)) (mark : Option TurnFault) (k : IsKept (start_of start faults told) w f new mark) where
    script_is : w.script ≡ start.script
    script_is = (reached_follows start w k.reached).script

    pub live_of : IsWorldOf start.script start.blocks w
    live_of = record {
      start = start;
      accepted = m.accepted;
      mounted = m;
      parts = mounted_geometry start.blocks start.script start good m;
      reached = k.reached;
      used = λ i n. uses (stepped (take i k.reached.nodes) start) (good_on (take i k.reached.nodes) start good) n;
      stop = λ i. stop_on (take i k.reached.nodes);
      told = told_on w (reached_follows start w k.reached);
      good = keeps;
      cat = keeps.running.cat;
      replayed = subst (λ (s : Script). Replays w.opening s w.history keeps.running.cat) script_is keeps.running.replayed;
      own = subst (λ (s : Script). Own s w.history) script_is keeps.own;
      orderly = (reached_follows start w k.reached).orderly orderly_first;
    }

  drive_of : (w : Plain) → Good w → (f : ℕ) (new : Option (List Block)) (mark : Option TurnFault) → IsKept (start_of start faults told) w f new mark → new ≡ telling (is_some told) w.blocks
      → Leaves told new (λ bs. IsLiveDrive start.script start.blocks bs)
  drive_of w keeps f new mark k image =
      record { new = w.blocks; left = image ∙ tells_on told w.blocks; holds = record { world = w; live = live_of w keeps f new mark k; image = refl } }

  -- a world with a failed write, and the blocks that the image has then
  cut_at : (w : Plain) (bs : List Block) → IsWorldOf start.script start.blocks w → IsAtFailedWrite true (Some bs) w → IsLiveCut start.script start.blocks bs (cut_text w.history)
  cut_at w bs live f = record { world = w; live = live; failed = f; torn = torn_by start.script start.blocks w bs live f; written = refl }

  cut_of : (w : Plain) → Good w → (f : ℕ) (new : Option (List Block)) → IsKept (start_of start faults told) w f new (fault_mark run.ImageFault)
      → Leaves told new (λ bs. IsLiveCut start.script start.blocks bs (cut_text w.history))
  cut_of w keeps f new k = by k.image.image where
    live : IsWorldOf start.script start.blocks w
    live = live_of w keeps f new (fault_mark run.ImageFault) k

    by : (new ≡ telling (is_some told) w.blocks) ⊎ (new ≡ telling (is_some told) (after_step w k.image.node).blocks) → Leaves told new (λ bs. IsLiveCut start.script start.blocks bs (cut_text w.history))
    by (inl e) = record {
      new = w.blocks;
      left = e ∙ tells_on told w.blocks;
      holds = cut_at w w.blocks live (record { node = k.image.node; of_world = k.image.of_world; turn = k.image.turn; write = k.image.write; image = inl refl });
    }
    by (inr e) = record {
      new = (after_step w k.image.node).blocks;
      left = e ∙ tells_on told (after_step w k.image.node).blocks;
      holds = cut_at w (after_step w k.image.node).blocks live (record { node = k.image.node; of_world = k.image.of_world; turn = k.image.turn; write = k.image.write; image = inr refl });
    }

  -- a run that stopped by this fault
  stop_by : (what : Job) (w : Plain) → Good w → (f : ℕ) (new : Option (List Block)) (r : RunFault) → IsKept (start_of start faults told) w f new (fault_mark r)
      → (s : Stop) → IsStopOf w r s → Leaves told new (λ bs. IsHalt what start.script start.blocks bs faults f (halt_of s))
  stop_by what w keeps f new run.ImageFault k (stop.Cut text) e =
      let c = cut_of w keeps f new k in
      record { new = c.new; left = c.left; holds = (k.cause refl, cut_as what start.script start.blocks c.new text.items (subst (λ (t : List ℕ). IsLiveCut start.script start.blocks c.new t) (sym e) c.holds)) }
  stop_by what w keeps f new run.ImageFault k stop.NoLines e =
      let c = cut_of w keeps f new k in
      record { new = c.new; left = c.left; holds = (k.cause refl, (cut_text w.history, cut_as what start.script start.blocks c.new (cut_text w.history) c.holds)) }
  stop_by what w keeps f new run.ImageFault k (stop.By s) e = absurd e
  stop_by what w keeps f new run.NoMemory k s e =
      let d = drive_of w keeps f new (fault_mark run.NoMemory) k k.image in
      record {
        new = d.new;
        left = d.left;
        holds = subst (λ (x : Stop). IsHalt what start.script start.blocks d.new faults f (halt_of x)) (sym e) (inr (lacking_as what start.script start.blocks d.new d.holds));
      }

  -- ---- every node is over, and nothing has failed

  module _ (w : Plain) (keeps : Good w) (f : ℕ) (now : Option (List Block)) (k : IsKept (start_of start faults told) w f now None) (over : AllOver w) (whole : Whole w.script w.history) where
    image : now ≡ told_as told w.blocks
    image = k.image ∙ tells_on told w.blocks

    end_of : (text : List ℕ) (c : Cat) → HasEnded w c → text ≡ report_text w.history c → IsLiveEnd start.script start.blocks w.blocks text
    end_of text c end written = record {
      world = w;
      live = live_of w keeps f now None k;
      over = over;
      whole = subst (λ (s : Script). Whole s w.history) (script_is w keeps f now None k) whole;
      after = c;
      replayed = subst (λ (s : Script). Replays w.opening s w.history c) (script_is w keeps f now None k) end.replayed;
      left = end.drive;
      image = refl;
      written = written;
    }

    ended : (c : Cat) × HasEnded w c
    ended = over_is_spelt w keeps over

    over_of : IsLiveOver start.script start.blocks
    over_of = record { at_end = w.blocks; report = report_text w.history ended.0; end = end_of (report_text w.history ended.0) ended.0 ended.1 refl }

    partly_of : (bs : List Block) → StillMends ended.0 w.blocks bs → IsLivePartly start.script start.blocks bs
    unfolding over_of end_of
    partly_of bs p = record { over = over_of; still = p }

    mended_of : (bs : List Block) (text : List ℕ) → IsMendedBy w ended.0 bs text → IsLiveMended start.script start.blocks bs text
    unfolding over_of end_of
    mended_of bs text r = record {
      over = over_of;
      mended = r;
      replayed = replays_grow w.opening start.script w.history ended.0 (entry.Mended r.done) r.mended.after
          (subst (λ (s : Script). Replays w.opening s w.history ended.0) (script_is w keeps f now None k) ended.1.replayed) r.mended.mends;
    }

    pub end_over : (what : Job) (new : Option (List Block)) (text : List ℕ) → IsToldOver what w now new text → Leaves told new (λ bs. IsEnd what start.script start.blocks bs text)
    end_over job.Live new text h = record { new = w.blocks; left = h.0 ∙ image; holds = end_of text h.1.0 h.1.1 h.1.2 }
    end_over job.LiveRebuild new text h =
        leaves_has told new (λ bs. IsMendedBy w ended.0 bs text) (λ bs. IsLiveMended start.script start.blocks bs text) (λ bs r. mended_of bs text r)
        (left_then told now new w.blocks (λ bs. IsMendedBy w ended.0 bs text) image (h ended.0 ended.1))

    mending_halts : (bs : List Block) (has : ℕ) (x : Halt) → IsHaltBy w ended.0 bs f has x → IsHalt job.LiveRebuild start.script start.blocks bs faults has x
    unfolding partly_of over_of end_of
    mending_halts bs has (halt.Cut text) r = (rose_later faults f has k.later r.0, inr (record { partly = partly_of bs r.1; written = r.2 }))
    mending_halts bs has halt.NoLines r = (rose_later faults f has k.later r.0, (cut_text w.history, inr (record { partly = partly_of bs r.1; written = refl })))
    mending_halts bs has (halt.Unmended text g) r = (m.accepted, record { over = over_of; unmended = r })
    mending_halts bs has (halt.By s) r = subst (IsQuiet job.LiveRebuild start.script start.blocks bs) (sym r.0) (inr (inl (inr (partly_of bs r.1))))

    pub halt_over : (what : Job) (new : Option (List Block)) (has : ℕ) (x : Halt) → IsHaltOver what w now new f has x → Leaves told new (λ bs. IsHalt what start.script start.blocks bs faults has x)
    halt_over job.Live new has x h =
        let d = drive_of w keeps f now None k k.image in
        record { new = d.new; left = h.0 ∙ d.left; holds = subst (IsHalt job.Live start.script start.blocks d.new faults has) (sym h.1) (inr (inl d.holds)) }
    halt_over job.LiveRebuild new has x h =
        leaves_has told new (λ bs. IsHaltBy w ended.0 bs f has x) (λ bs. IsHalt job.LiveRebuild start.script start.blocks bs faults has x) (λ bs r. mending_halts bs has x r)
        (left_then told now new w.blocks (λ bs. IsHaltBy w ended.0 bs f has x) image (h ended.0 ended.1))

  -- ---- by the end of the run after the threads

  -- the image tells the drive
  pub told_ok : {A : Type 0} (w : Plain) (f : ℕ) (now : Option (List Block)) (r : Result A RunFault) → IsKept (start_of start faults told) w f now (run_mark r) → OnOk r (IsTold now w.blocks)
  told_ok w f now (Ok a) k = is_told (is_some told) now w.blocks k.image
  told_ok w f now (Err e) k = tt

  pub ended_by : {A : Type 0} (what : Job) (w : Plain) → Good w → (f : ℕ) (now new : Option (List Block)) (text : List ℕ) (r : Result A RunFault) → IsKept (start_of start faults told) w f now (run_mark r)
      → OnOk r (AllOver w) → OnOk r (Whole w.script w.history) → IsToldEnd what w r now new text → Leaves told new (λ bs. IsEnd what start.script start.blocks bs text)
  ended_by what w keeps f now new text (Ok a) k over whole end = end_over w keeps f now k over whole what new text end
  ended_by what w keeps f now new text (Err e) k over whole end = absurd end

  pub halted_by : {A : Type 0} (what : Job) (w : Plain) → Good w → (f has : ℕ) (now new : Option (List Block)) (r : Result A RunFault) → IsKept (start_of start faults told) w f now (run_mark r)
      → OnOk r (AllOver w) → OnOk r (Whole w.script w.history) → (x : Halt) → IsHaltAfter what w r now new f has x → Leaves told new (λ bs. IsHalt what start.script start.blocks bs faults has x)
  halted_by what w keeps f has now new (Ok a) k over whole x h = halt_over w keeps f now k over whole what new has x h
  halted_by what w keeps f has now new (Err fault) k over whole x h =
      let d = stop_by what w keeps f now fault k h.2.0 h.2.2 in
      record {
        new = d.new;
        left = h.0 ∙ d.left;
        holds = subst (IsHalt what start.script start.blocks d.new faults has) (sym h.2.1) (subst (λ (n : ℕ). IsHalt what start.script start.blocks d.new faults n (halt_of h.2.0)) (sym h.1) d.holds);
      }

-- what is said of a mounted volume is said of its blocks
pub end_of_mounted : (what : Job) (bs : List Block) (s : Script) (w : Plain) (new : List Block) (text : List ℕ) → IsMounted bs s w → IsEnd what w.script w.blocks new text → IsEnd what s bs new text
end_of_mounted what bs s w new text m h =
    subst (λ (t : Script). IsEnd what t bs new text) (ap (λ (v : Plain). v.script) m.is) (subst (λ (b : List Block). IsEnd what w.script b new text) (ap (λ (v : Plain). v.blocks) m.is) h)

pub halt_of_mounted : (what : Job) (bs : List Block) (s : Script) (w : Plain) (new : List Block) (had has : ℕ) (x : Halt) → IsMounted bs s w → IsHalt what w.script w.blocks new had has x → IsHalt what s bs new had has x
halt_of_mounted what bs s w new had has x m h =
    subst (λ (t : Script). IsHalt what t bs new had has x) (ap (λ (v : Plain). v.script) m.is) (subst (λ (b : List Block). IsHalt what w.script b new had has x) (ap (λ (v : Plain). v.blocks) m.is) h)

pub mount_halt : (what : Job) (s : Script) (bs : List Block) (f : MountFault) → IsMountEnd bs f → IsQuiet what s bs bs (mount_status f)
mount_halt what s bs (mount.NotAccepted f) h = (h, refl)
mount_halt what s bs mount.NoMemory h = inl refl
