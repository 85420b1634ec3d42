-- The event of a node, with its fault as the mark, keeps what is kept of a world.
use Rattle.std.proofs.Common.{◌≡◌, ◌≤◌, ◌⊎◌, ℕ, Bool, true, false, List, Option, Some, None, Result, Ok, Err, sym, refl, ap, subst, ◌∙◌, inl, inr, arith}
use Rattle.std.specs.Prelude.{OnOk, OnErr}
use Rattle.base_words.specs.Fields.{Block}
use Rattle.base_words.specs.Faults.{Rose}
use Rattle.core_state.specs.Images.{IsTorn}
use Rattle.blk_drive.specs.Telling.{IsTold}
use Rattle.blk_drive.specs.Telling.{told_as}
use Rattle.core_state.specs.Worlds.{Plain, IsOfWorld}
use Rattle.core_state.specs.Deaths.{is_due, after_step}
use Rattle.core_state.specs.Events.{is_write, next_event}
use Rattle.core_step.specs.declared.turns.Turn.{Turn}
use Rattle.core_step.specs.declared.turns.TurnFault.{TurnFault}
use Rattle.core_step.specs.declared.turns.TurnFault.TheVariants.{ImageFault, NoMemory}
use Rattle.node_seat.specs.declared.views.Start.{Start}
use Rattle.node_seat.specs.Steps.{IsReached}
use Rattle.node_seat.specs.Keeping.{IsKept, telling, mark_of}
use Rattle.node_seat.proofs.Reaching.{reached_more}

-- the image goes with the drive
pub told_on : (tells : Bool) (told told' : Option (List Block)) (bs cs : List Block) → told ≡ telling tells bs → told' ≡ told_as told cs → told' ≡ telling tells cs
told_on true told told' bs cs h e = e ∙ ap (λ t. told_as t cs) h
told_on false told told' bs cs h e = e ∙ ap (λ t. told_as t cs) h

pub is_told : (tells : Bool) (told : Option (List Block)) (bs : List Block) → told ≡ telling tells bs → IsTold told bs
is_told true told bs h = subst (λ t. IsTold t bs) (sym h) refl
is_told false told bs h = subst (λ t. IsTold t bs) (sym h) tt

pub grown : (count f f' : ℕ) → count ≤ f → Rose f f' → Rose count f'
grown count f f' h r = omega arith

pub none_marked : ◌≡◌ {A = Option TurnFault} None (Some ImageFault) → ⊥
none_marked e = cc

other_fault : ◌≡◌ {A = Option TurnFault} (Some NoMemory) (Some ImageFault) → ⊥
other_fault e = cc

ok_err : (t : Turn) → ◌≡◌ {A = Result Turn TurnFault} (Ok t) (Err ImageFault) → ⊥
ok_err t e = cc

no_err : ◌≡◌ {A = Result Turn TurnFault} (Err NoMemory) (Err ImageFault) → ⊥
no_err e = cc

module _ (start : Start) (old new : Plain) (f f' : ℕ) (told told' : Option (List Block)) (n : ℕ) (of_world : IsOfWorld old n) (k : IsKept start old f told None) (later : f ≤ f') where
  no_later : start.count ≤ f'
  no_later = let a = k.later in omega arith

  -- an event that answers
  moved_on : (t : Turn) → new ≡ after_step old n → ((told' ≡ told_as told new.blocks) ⊎ (◌≡◌ {A = Result Turn TurnFault} (Ok t) (Err ImageFault))) → IsKept start new f' told' None
  moved_on t moved drive =
      record {
        reached = subst (λ (v : Plain). IsReached start.world v) (sym moved) (reached_more start.world old n k.reached of_world);
        later = no_later;
        cause = λ e. absurd (none_marked e);
        image = elim drive [ inl d ↦ told_on start.tells told told' old.blocks new.blocks k.image d | inr d ↦ absurd (ok_err t d) ];
      }

  -- one that fails for want of memory
  wanted : ((told' ≡ told_as told old.blocks) ⊎ (◌≡◌ {A = Result Turn TurnFault} (Err NoMemory) (Err ImageFault))) → IsKept start old f' told' (Some NoMemory)
  wanted drive = record {
    reached = k.reached;
    later = no_later;
    cause = λ e. absurd (other_fault e);
    image = elim drive [ inl d ↦ told_on start.tells told told' old.blocks old.blocks k.image d | inr d ↦ absurd (no_err d) ];
  }

  -- one whose write fails
  torn_off : is_due old n ≡ false → Rose f f' → is_write (next_event old n) ≡ true → IsTorn told told' old.blocks (after_step old n).blocks → IsKept start old f' told' (Some ImageFault)
  torn_off due rose write torn = record {
    reached = k.reached;
    later = no_later;
    cause = λ e. grown start.count f f' k.later rose;
    image = record {
      node = n;
      of_world = of_world;
      turn = due;
      write = write;
      image = elim torn [
        | inl d ↦ inl (told_on start.tells told told' old.blocks old.blocks k.image d)
        | inr d ↦ inr (told_on start.tells told told' old.blocks (after_step old n).blocks k.image d)
      ];
    };
  }

  pub acted : (r : Result Turn TurnFault) → OnOk r (new ≡ after_step old n) → OnErr r (new ≡ old) → OnErr r (is_due old n ≡ false) → (r ≡ Err ImageFault → Rose f f')
      → (r ≡ Err ImageFault → is_write (next_event old n) ≡ true)
      → (r ≡ Err ImageFault → IsTold told old.blocks → IsTorn told told' old.blocks (after_step old n).blocks)
      → (IsTold told old.blocks → (told' ≡ told_as told new.blocks) ⊎ (r ≡ Err ImageFault))
      → IsKept start new f' told' (mark_of r)
  acted (Ok t) moved same due cause before torn drive = moved_on t moved (drive (is_told start.tells told old.blocks k.image))
  acted (Err ImageFault) moved same due cause before torn drive =
      subst (λ v. IsKept start v f' told' (Some ImageFault)) (sym same) (torn_off due (cause refl) (before refl) (torn refl (is_told start.tells told old.blocks k.image)))
  acted (Err NoMemory) moved same due cause before torn drive =
      let P : Plain → Type 0 = λ v. (told' ≡ told_as told v.blocks) ⊎ (◌≡◌ {A = Result Turn TurnFault} (Err NoMemory) (Err ImageFault)) in
      subst (λ v. IsKept start v f' told' (Some NoMemory)) (sym same) (wanted (subst P same (drive (is_told start.tells told old.blocks k.image))))
