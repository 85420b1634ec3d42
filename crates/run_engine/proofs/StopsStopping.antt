-- A run can stop wherever it is, also where a write of it failed.
use Rattle.std.proofs.Common.{◌≡◌, ◌⊎◌, ◌∙◌, ◌+◌, ℕ, Bool, true, false, cond, List, Option, Some, None, slice_index_or, refl, sym, ap, subst, inl, inr}
use Rattle.std.proofs.lemmas.Option.{slice_get_within, get_or_from_slice_get}
use Rattle.plain_cat.specs.declared.command.Cmd.{Cmd}
use Rattle.plain_rules.specs.Own.{next_command}
use Rattle.op_law.specs.Laws.{Lawful}
use Rattle.core_state.specs.Worlds.{NodeState, Plain, node_at, or_next}
use Rattle.core_state.specs.Goods.{HasCommand, HasOnly, Good, IsAccepted}
use Rattle.core_state.specs.Images.{IsTorn}
use Rattle.core_state.specs.Event.{Event}
use Rattle.core_state.specs.Event as event
use Rattle.core_state.specs.Events.{is_write, next_event, happens, happen_at, readied, readied_at, after_turn, is_over}
use Rattle.core_state.specs.Deaths.{is_due, died, after_step}
use Rattle.core_state.proofs.Openings.{opening_after}
use Rattle.core_state.specs.Ends.{GoesLawfully}
use Rattle.run_engine.proofs.Worlds.{stopped_worlds_mend, steps_keep_the_rules}
use Rattle.run_engine.specs.Walks.{after_play, played, IsPartOfWalk, IsNextIn, Stays}
use Rattle.run_engine.proofs.Playing.{play_more}
use Rattle.run_engine.proofs.Rotating.{rotation_more}
use Rattle.run_engine.proofs.Staying.{played_stays, walk_stays}
use Rattle.run_engine.specs.Torn.{CanStop, IsTornWorld, IsTornRun}
use Rattle.run_engine.specs.TornLaws.{RunsCanStop, TornWorldsCanStop, TornRunsCanStop}

-- ---- a write answers nothing

write_answers : (w : Plain) (n : ℕ) (s : NodeState) (e : Event) → is_write e ≡ true → (happens w n s e).history ≡ w.history
write_answers w n s (event.Write v) is = refl
write_answers w n s (event.SpaceWrite v) is = refl
write_answers w n s other is = absurd (let f : false ≡ true = is in cc)

at_answers : (w : Plain) (n : ℕ) (o : Option NodeState) (e : Event) → is_write e ≡ true → (happen_at w n o e).history ≡ w.history
at_answers w n None e is = refl
at_answers w n (Some s) e is = write_answers w n s e is

-- nor does what comes before it
readied_answers : (w : Plain) (n : ℕ) (o : Option NodeState) → (readied_at w n o).history ≡ w.history
readied_answers w n None = refl
readied_answers w n (Some s) = refl

step_answers : (w : Plain) (n : ℕ) → is_due w n ≡ false → is_write (next_event w n) ≡ true → (after_step w n).history ≡ w.history
step_answers w n alive is =
    ap (λ (b : Bool). (cond b (died w n) (after_turn w n)).history) alive
    ∙ (at_answers (readied w n) n (node_at (readied w n).nodes n) (next_event w n) is ∙ readied_answers w n (node_at w.nodes n))

-- and the catalogue with which the history begins stays
step_opening : (w : Plain) (n : ℕ) → is_due w n ≡ false → (after_step w n).opening ≡ w.opening
step_opening w n alive = ap (λ (b : Bool). (cond b (died w n) (after_turn w n)).opening) alive ∙ opening_after w n

-- ---- a node goes on with a command that obeys the law

module _ (w : Plain) (n : ℕ) (good : Good w) (all : HasOnly Lawful w.script) where
  pub goes_lawfully : GoesLawfully w n
  goes_lawfully s x at calm now = by s.cmd refl now where
    by : (o : Option Cmd) → s.cmd ≡ o → or_next o (next_command w.script n w.history) ≡ Some x → Lawful x
    by (Some y) e f =
        let same : y ≡ x = cc in
        subst Lawful same (subst (HasCommand w n s) e (good.nodes n s at).command).lawful
    by None e f = all n w.history x f

-- ---- a walk goes on with the turn that comes

alive_plays : (w : Plain) (n : ℕ) → is_over w n ≡ false → after_step w n ≡ after_play w n
unfolding after_play
alive_plays w n alive = ap (λ (b : Bool). cond b w (after_step w n)) (sym alive)

walks_on : (start w : Plain) (plays : List ℕ) (n : ℕ) → IsNextIn start plays w n → IsPartOfWalk start plays (after_step w n)
walks_on start w plays n (inl p) =
    let here : slice_index_or plays p.made 0 ≡ n = get_or_from_slice_get plays p.made n 0 p.play in
    inl (
      p.made + 1,
      play_more plays p.made 0 start w (after_step w n) (slice_get_within plays p.made n p.play) p.at (alive_plays w n p.alive ∙ ap (after_play w) (sym here)),
    )
walks_on start w plays n (inr t) =
    inr (t.made + 1, sym (ap (λ r. r.world) (rotation_more t.made (record { world = played plays start; from = 1 }) w t.from n (after_step w n) t.at (sym t.turn) refl)))

part_stays : (start w : Plain) (plays : List ℕ) → IsPartOfWalk start plays w → Stays start w
part_stays start w plays (inl p) = played_stays start plays w p
part_stays start w plays (inr t) = walk_stays start (played plays start) w plays refl t

-- ---- it can stop

pub world_can_stop : (w : Plain) → Good w → IsAccepted w.opening → CanStop w
world_can_stop w good accepted =
    let r = stopped_worlds_mend w good accepted in
    record { left = r.0; halted = r.1; mends = r.2 }

pub runs_can_stop : RunsCanStop
runs_can_stop start w plays accepted part good = world_can_stop w good (subst IsAccepted (sym (part_stays start w plays part).opening) accepted)

pub torn_worlds_can_stop : TornWorldsCanStop
torn_worlds_can_stop w n bs new accepted lawful good alive is torn = by torn where
  on : Plain
  on = after_step w n

  good_on : Good on
  good_on = steps_keep_the_rules w n good (goes_lawfully w n good lawful)

  by : IsTorn (Some bs) new w.blocks on.blocks → IsTornWorld w n new
  by (inl e) = record { world = w; landed = inl refl; image = e; good = good; history = refl; stop = world_can_stop w good accepted }
  by (inr e) = record {
    world = on;
    landed = inr refl;
    image = e;
    good = good_on;
    history = step_answers w n alive is;
    stop = world_can_stop on good_on (subst IsAccepted (sym (step_opening w n alive)) accepted);
  }

pub torn_runs_can_stop : TornRunsCanStop
torn_runs_can_stop start w plays bs new accepted lawful part good before = by torn.landed where
  n : ℕ
  n = before.node

  opened : IsAccepted w.opening
  opened = subst IsAccepted (sym (part_stays start w plays part).opening) accepted

  torn : IsTornWorld w n new
  torn = torn_worlds_can_stop w n bs new opened lawful good before.turn before.write (before.image refl)

  by : (torn.world ≡ w) ⊎ (torn.world ≡ after_step w n) → IsTornRun start plays w n new
  by (inl e) = record { torn = torn; walked = subst (IsPartOfWalk start plays) (sym e) part }
  by (inr e) = record { torn = torn; walked = subst (IsPartOfWalk start plays) (sym e) (walks_on start w plays n before.next) }
