-- The turn whose write failed, or that lacked memory, in a run.
use Rattle.std.proofs.Common.{◌≡◌, ◌⊎◌, ℕ, List, Option, refl, subst, inl, inr}
use Rattle.base_words.specs.Fields.{Block}
use Rattle.blk_drive.specs.Telling.{IsTold}
use Rattle.blk_drive.specs.Telling.{told_as}
use Rattle.core_state.specs.Worlds.{Plain}
use Rattle.core_state.specs.Deaths.{after_step}
use Rattle.core_step.specs.declared.turns.TurnFault.{TurnFault}
use Rattle.core_step.specs.declared.turns.TurnFault.TheVariants as turn
use Rattle.run_engine.specs.declared.fault.RunFault.TheVariants as run
use Rattle.run_engine.specs.Faults.{run_fault}
use Rattle.run_engine.specs.Walks.{played, IsNextPlay, IsNextTurn, IsNextIn, IsBeforeWrite, IsBeforeTaking}
use Rattle.run_engine.proofs.Driving.{told_well, torn_on}

pub image_fault : (f : TurnFault) → run_fault f ≡ run.ImageFault → f ≡ turn.ImageFault
image_fault turn.ImageFault e = refl
image_fault turn.NoMemory e = absurd (let h : run.NoMemory ≡ run.ImageFault = e in cc)

pub no_memory : (f : TurnFault) → run_fault f ≡ run.NoMemory → f ≡ turn.NoMemory
no_memory turn.NoMemory e = refl
no_memory turn.ImageFault e = absurd (let h : run.ImageFault ≡ run.NoMemory = e in cc)

-- that of a play is one of the walk
pub by_play : (old : Plain) (plays : List ℕ) (first : List Block) (told now : Option (List Block)) (w : Plain)
    → IsBeforeWrite (IsNextPlay old plays w) first told now w → IsBeforeWrite (IsNextIn old plays w) first told now w
by_play old plays first told now w h = record { node = h.node; next = inl h.next; turn = h.turn; write = h.write; image = h.image }

-- and so is that of a turn in rotation, behind the plays
pub by_turn : (P : Type 0) (old mid : Plain) (plays : List ℕ) (first : List Block) (told then now : Option (List Block)) (w : Plain) → mid ≡ played plays old
    → (IsTold told first → (then ≡ told_as told mid.blocks) ⊎ P) → (P → ⊥)
    → IsBeforeWrite (IsNextTurn mid w) mid.blocks then now w → IsBeforeWrite (IsNextIn old plays w) first told now w
by_turn P old mid plays first told then now w at drive none h = record {
  node = h.node;
  next = inr (subst (λ (v : Plain). IsNextTurn v w h.node) at h.next);
  turn = h.turn;
  write = h.write;
  image = λ t. torn_on told then now mid.blocks w.blocks (after_step w h.node).blocks (told_well P _ _ (drive t) none) h.image;
}

-- the same where memory was lacking
pub taking_by_play : (old : Plain) (plays : List ℕ) (w : Plain) → IsBeforeTaking (IsNextPlay old plays w) w → IsBeforeTaking (IsNextIn old plays w) w
taking_by_play old plays w h = record { node = h.node; next = inl h.next; turn = h.turn; takes = h.takes }

pub taking_by_turn : (old mid : Plain) (plays : List ℕ) (w : Plain) → mid ≡ played plays old → IsBeforeTaking (IsNextTurn mid w) w → IsBeforeTaking (IsNextIn old plays w) w
taking_by_turn old mid plays w at h = record { node = h.node; next = inr (subst (λ (v : Plain). IsNextTurn v w h.node) at h.next); turn = h.turn; takes = h.takes }
