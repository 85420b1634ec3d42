-- The run after the threads keeps what they kept.
use Rattle.std.proofs.Common.{◌≡◌, ◌≤◌, ◌⊎◌, ℕ, zero, suc, true, false, cond, List, Option, Some, None, Result, Ok, Err, refl, sym, ap, subst, ◌∙◌, inl, inr, arith}
use Rattle.std.specs.Prelude.{OnOk, OnErr}
use Rattle.std.proofs.lemmas.Option.{slice_get_within}
use Rattle.base_words.specs.Fields.{Block}
use Rattle.base_words.specs.Faults.{Rose}
use Rattle.blk_drive.specs.Telling.{IsTold}
use Rattle.blk_drive.specs.Telling.{told_as}
use Rattle.core_state.specs.Worlds.{NodeState, Plain, IsOfWorld, node_at}
use Rattle.core_state.specs.Events.{is_write, event_of, next_event, readied_at, readied, happen_at, after_turn}
use Rattle.core_state.specs.Deaths.{is_due, died_at, died, after_step}
use Rattle.core_step.specs.declared.turns.TurnFault.{TurnFault}
use Rattle.core_step.specs.declared.turns.TurnFault.TheVariants as turn
use Rattle.run_engine.specs.declared.fault.RunFault.{RunFault}
use Rattle.run_engine.specs.declared.fault.RunFault.TheVariants as run
use Rattle.run_engine.specs.Walks.{played, budget_of, IsPartOfWalk, IsRotatedIn, IsNextIn, IsBeforeWrite}
use Rattle.core_state.specs.Ends.{AllOver}
use Rattle.node_seat.specs.declared.views.Start.{Start}
use Rattle.node_seat.specs.Steps.{IsReached}
use Rattle.node_seat.specs.Keeping.{IsKept}
use Rattle.node_seat.proofs.Reaching.{reached_more}
use Rattle.node_seat.proofs.Acting.{told_on, is_told, grown}
use Rattle.run_engine.proofs.Walked.{over_part}
use Rattle.live_run.specs.Rests.{run_mark, fault_mark}

-- a fault of the threads is the fault of the run
pub marked : (fault : TurnFault) (r : RunFault) → (fault ≡ turn.ImageFault → r ≡ run.ImageFault) → (fault ≡ turn.NoMemory → r ≡ run.NoMemory) → Some fault ≡ fault_mark r
marked turn.ImageFault r i m = rw (i refl) refl
marked turn.NoMemory r i m = rw (m refl) refl

-- a node that stands in the list of a world is one of its nodes
of_world : (w : Plain) (k : ℕ) (s : NodeState) → node_at w.nodes k ≡ Some s → IsOfWorld w k
of_world w zero s e = absurd (let f : None ≡ Some s = e in cc)
of_world w (suc k) s e = let l = slice_get_within w.nodes k s e in record { from = omega arith; to = omega arith }

-- the next event of a node is a write only if it is a node of the world
pub write_of_world : (w : Plain) (n : ℕ) → is_write (next_event w n) ≡ true → IsOfWorld w n
write_of_world w n h = by (node_at w.nodes n) refl h where
  rests : (o : Option NodeState) → o ≡ None → is_write (event_of w n o) ≡ true → ⊥
  rests o e t = let f : is_write (event_of w n None) ≡ true = subst (λ q. is_write (event_of w n q) ≡ true) e t in let g : false ≡ true = f in cc

  by : (o : Option NodeState) → node_at w.nodes n ≡ o → is_write (event_of (readied_at w n o) n (node_at (readied_at w n o).nodes n)) ≡ true → IsOfWorld w n
  by None e t = absurd (rests (node_at w.nodes n) e t)
  by (Some s) e t = of_world w n s e

-- a number that is no node of the world makes no step
no_step : (w : Plain) (n : ℕ) → node_at w.nodes n ≡ None → after_step w n ≡ w
no_step w n e = elim (is_due w n) as (λ b. cond b (died w n) (after_turn w n) ≡ w) [ true ↦ ap (λ o. died_at w n o) e | false ↦ no_turn ] where
  same : readied w n ≡ w
  same = ap (λ o. readied_at w n o) e

  none : node_at (readied w n).nodes n ≡ None
  none = ap (λ (v : Plain). node_at v.nodes n) same ∙ e

  no_turn : after_turn w n ≡ w
  no_turn = ap (λ o. happen_at (readied w n) n o (next_event w n)) none ∙ same

-- what steps have led to leads on by a step
any_step : (start w : Plain) (n : ℕ) → IsReached start w → IsReached start (after_step w n)
any_step start w n r = by (node_at w.nodes n) refl where
  by : (o : Option NodeState) → node_at w.nodes n ≡ o → IsReached start (after_step w n)
  by None e = subst (λ (v : Plain). IsReached start v) (sym (no_step w n e)) r
  by (Some s) e = reached_more start w n r (of_world w n s e)

fault_none : ◌≡◌ {A = Option TurnFault} None (Some turn.ImageFault) → ⊥
fault_none e = cc

fault_other : ◌≡◌ {A = Option TurnFault} (Some turn.NoMemory) (Some turn.ImageFault) → ⊥
fault_other e = cc

ok_other : {A : Type 0} (a : A) → ◌≡◌ {A = Result A RunFault} (Ok a) (Err run.ImageFault) → ⊥
ok_other a e = cc

memory_other : {A : Type 0} → ◌≡◌ {A = Result A RunFault} (Err run.NoMemory) (Err run.ImageFault) → ⊥
memory_other e = cc

module _ (start : Start) (old new : Plain) (f f' : ℕ) (told told' : Option (List Block)) (k : IsKept start old f told None) (later : f ≤ f') where
  no_later : start.count ≤ f'
  no_later = let a = k.later in omega arith

  on_drive : IsTold told old.blocks
  on_drive = is_told start.tells told old.blocks k.image

  went_well : (P : Type 0) → (P → ⊥) → ((told' ≡ told_as told new.blocks) ⊎ P) → told' ≡ told_as told new.blocks
  went_well P none drive = elim drive [ inl d ↦ d | inr d ↦ absurd (none d) ]

  quiet : told' ≡ told_as told new.blocks → IsReached start.world new → IsKept start new f' told' None
  quiet d o = record {
    reached = o;
    later = no_later;
    cause = λ e. absurd (fault_none e);
    image = told_on start.tells told told' old.blocks new.blocks k.image d;
  }

  wanted : told' ≡ told_as told new.blocks → IsReached start.world new → IsKept start new f' told' (Some turn.NoMemory)
  wanted d o = record {
    reached = o;
    later = no_later;
    cause = λ e. absurd (fault_other e);
    image = told_on start.tells told told' old.blocks new.blocks k.image d;
  }

  module _ (plays : List ℕ) where
    cut : Rose f f' → IsBeforeWrite (IsNextIn old plays new) old.blocks told told' new → IsReached start.world new → IsKept start new f' told' (Some turn.ImageFault)
    cut rose b o = record {
      reached = o;
      later = no_later;
      cause = λ e. grown start.count f f' k.later rose;
      image = record {
        node = b.node;
        of_world = write_of_world new b.node b.write;
        turn = b.turn;
        write = b.write;
        image = elim (b.image on_drive) [
          | inl d ↦ inl (told_on start.tells told told' old.blocks new.blocks k.image d)
          | inr d ↦ inr (told_on start.tells told told' old.blocks (after_step new b.node).blocks k.image d)
        ];
      };
    }

    pub ran_kept : {A : Type 0} (r : Result A RunFault) → OnOk r (IsRotatedIn (budget_of old) (played plays old) new × AllOver new) → OnErr r (IsPartOfWalk old plays new)
        → (r ≡ Err run.ImageFault → Rose f f') → (r ≡ Err run.ImageFault → IsBeforeWrite (IsNextIn old plays new) old.blocks told told' new)
        → (IsTold told old.blocks → (told' ≡ told_as told new.blocks) ⊎ (r ≡ Err run.ImageFault)) → IsKept start new f' told' (run_mark r)
    ran_kept (Ok a) ok err cause before drive =
        let o : IsReached start.world new = over_part (IsReached start.world) (any_step start.world) old plays new (inr (ok.0.turns, ok.0.at)) k.reached in
        quiet (went_well _ (ok_other a) (drive on_drive)) o
    ran_kept (Err run.ImageFault) ok err cause before drive =
        cut (cause refl) (before refl) (over_part (IsReached start.world) (any_step start.world) old plays new err k.reached)
    ran_kept (Err run.NoMemory) ok err cause before drive =
        let o : IsReached start.world new = over_part (IsReached start.world) (any_step start.world) old plays new err k.reached in
        wanted (went_well _ memory_other (drive on_drive)) o
