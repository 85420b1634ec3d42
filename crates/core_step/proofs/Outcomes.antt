-- How a turn comes out: its event is made, memory runs out, or a write of the image fails.
use Rattle.std.proofs.Common.{◌≡◌, ◌≤◌, ◌⊎◌, ℕ, true, false, List, Option, Some, None, Result, Ok, Err, slice_set, refl, sym, ap, subst, ◌∙◌, inl, inr, arith}
use Rattle.std.specs.Result.{IsErrAnd}
use Rattle.base_words.specs.Fields.{Block}
use Rattle.base_words.specs.Faults.{Rose}
use Rattle.blk_drive.specs.Images.{told_set}
use Rattle.core_state.specs.Worlds.{Held, Plain}
use Rattle.core_state.specs.Goods.{HasRoom}
use Rattle.core_state.specs.Images.{IsTorn}
use Rattle.blk_drive.specs.Telling.{IsTold}
use Rattle.blk_drive.specs.Telling.{told_as}
use Rattle.core_state.specs.Event.{Event}
use Rattle.core_state.specs.Events.{happen, is_write, next_event, after_turn}
use Rattle.core_step.specs.declared.turns.Turn.{Turn}
use Rattle.core_step.specs.declared.turns.TurnFault.{TurnFault}
use Rattle.core_step.specs.declared.turns.TurnFault.TheVariants as fault
use Rattle.core_step.specs.Memory.{takes_none}
use Rattle.core_step.specs.Ready.{Makes}
use Rattle.core_step.specs.Turns.{told}
use Rattle.core_step.specs.Outcome.{IsTurn}

-- ---- what an image tells

same_told : (t : Option (List Block)) (bs : List Block) → IsTold t bs → t ≡ told_as t bs
same_told None bs h = refl
same_told (Some x) bs h = ap Some (sym h)

set_told : (t : Option (List Block)) (bs : List Block) (lbn : ℕ) (b : Block) → IsTold t bs → told_set t lbn b ≡ told_as t (slice_set bs lbn b)
set_told None bs lbn b h = refl
set_told (Some x) bs lbn b h = ap (λ ys. Some (slice_set ys lbn b)) (sym h)

-- an image that is as it was tells the blocks of a drive that is as it was
still_told : (t u : Option (List Block)) (bs cs : List Block) → u ≡ t → cs ≡ bs → IsTold t bs → u ≡ told_as t cs
still_told t u bs cs same is h = same ∙ same_told t bs h ∙ ap (told_as t) (sym is)

-- the block that failed is the old one or the new one
old_or_new : (t u : Option (List Block)) (bs after : List Block) (lbn : ℕ) (b : Block) → IsTold t bs → after ≡ slice_set bs lbn b → (u ≡ t) ⊎ (u ≡ told_set t lbn b) → IsTorn t u bs after
old_or_new t u bs after lbn b h is (inl e) = inl (e ∙ same_told t bs h)
old_or_new t u bs after lbn b h is (inr e) = inr (e ∙ set_told t bs lbn b h ∙ ap (told_as t) (sym is))

-- ---- the room of the history

-- a world that is as it was has room still
pub more_room : {w new : Plain} {spare spare' : ℕ} → new ≡ w → spare ≤ spare' → HasRoom w spare → HasRoom new spare'
more_room {w} {new} {spare} {spare'} same more room = subst (λ (v : Plain). HasRoom v spare') (sym same) (record { few = room.few; lines = room.lines; places = (let le = room.places in omega arith) })

pub still_room : {w new : Plain} {spare spare' : ℕ} → new ≡ w → spare' ≡ spare → HasRoom w spare → HasRoom new spare'
still_room {w} {new} {spare} {spare'} same is room = more_room same (omega arith) room

-- ---- the event that is made

pub makes_as : {w : Plain} {n : ℕ} {j k : Event} → Makes w n j → j ≡ k → Makes w n k
makes_as m e = record { event = m.event ∙ e; stays = m.stays }

-- and it makes of the world what k does
pub makes : {w : Plain} {n : ℕ} {k : Event} → Makes w n k → after_turn w n ≡ happen w n k
makes {w} {n} {k} m = λ i. happen (m.stays i) n (m.event i)

-- ---- the outcomes

module _ {I : Type 0} {faults : I → ℕ} {blocks : I → Option (List Block)} {n : ℕ} {old new : Held I} where
  -- the event is made, and no image is written to
  pub quiet : (t : Turn) {k : Event} → Makes old.world n k → new.world ≡ happen old.world n k → told new.world n k ≡ t → new.image ≡ old.image → new.world.blocks ≡ old.world.blocks → HasRoom new.world new.room → IsTurn faults blocks n old new (Ok t)
  quiet t {k} m world answer image drive room = record {
    moved = world ∙ sym (makes m);
    answer = sym (ap (told new.world n) m.event ∙ answer);
    same = tt;
    memory = λ h. absurd (cc);
    later = (let same : faults new.image ≡ faults old.image = ap faults image in omega arith);
    cause = λ h. absurd (cc);
    before = λ h. absurd (cc);
    torn = λ h. absurd (cc);
    drive = λ h. inl (still_told (blocks old.image) (blocks new.image) old.world.blocks new.world.blocks (ap blocks image) drive h);
    room = room;
  }

  -- memory runs out
  pub lacking : (r : Result Turn TurnFault) → IsErrAnd r (λ f. f ≡ fault.NoMemory) → new.world ≡ old.world → takes_none old.world.locks n (next_event old.world n) ≡ false → new.image ≡ old.image → HasRoom new.world new.room → IsTurn faults blocks n old new r
  lacking (Ok t) is same takes image room = absurd is
  lacking (Err f) is same takes image room = record {
    moved = tt;
    answer = tt;
    same = same;
    memory = λ h. takes;
    later = (let same : faults new.image ≡ faults old.image = ap faults image in omega arith);
    cause = λ h. absurd (cc);
    before = λ h. absurd (cc);
    torn = λ h. absurd (cc);
    drive = λ h. inl (still_told (blocks old.image) (blocks new.image) old.world.blocks new.world.blocks (ap blocks image) (ap (λ (w : Plain). w.blocks) same) h);
    room = room;
  }

  -- a block is written, and with it the event is made
  pub wrote : (t : Turn) {k : Event} (lbn : ℕ) (b : Block) → Makes old.world n k → new.world ≡ happen old.world n k → told new.world n k ≡ t → faults old.image ≤ faults new.image → blocks new.image ≡ told_set (blocks old.image) lbn b
      → new.world.blocks ≡ slice_set old.world.blocks lbn b → HasRoom new.world new.room → IsTurn faults blocks n old new (Ok t)
  wrote t {k} lbn b m world answer later image drive room = record {
    moved = world ∙ sym (makes m);
    answer = sym (ap (told new.world n) m.event ∙ answer);
    same = tt;
    memory = λ h. absurd (cc);
    later = later;
    cause = λ h. absurd (cc);
    before = λ h. absurd (cc);
    torn = λ h. absurd (cc);
    drive = λ h. inl (image ∙ set_told (blocks old.image) old.world.blocks lbn b h ∙ ap (told_as (blocks old.image)) (sym drive));
    room = room;
  }

  -- the write fails
  pub failed : (r : Result Turn TurnFault) {k : Event} (lbn : ℕ) (b : Block) → IsErrAnd r (λ f. f ≡ fault.ImageFault) → Makes old.world n k → new.world ≡ old.world → is_write k ≡ true → (happen old.world n k).blocks ≡ slice_set old.world.blocks lbn b
      → faults old.image ≤ faults new.image → Rose (faults old.image) (faults new.image) → (blocks new.image ≡ blocks old.image) ⊎ (blocks new.image ≡ told_set (blocks old.image) lbn b) → HasRoom new.world new.room → IsTurn faults blocks n old new r
  failed (Ok t) {k} lbn b is m same write leaves later rose torn room = absurd is
  failed (Err f) {k} lbn b is m same write leaves later rose torn room = record {
    moved = tt;
    answer = tt;
    same = same;
    memory = λ h. absurd (cc);
    later = later;
    cause = λ h. rose;
    before = λ h. ap is_write m.event ∙ write;
    torn = λ h told. old_or_new (blocks old.image) (blocks new.image) old.world.blocks (after_turn old.world n).blocks lbn b told (ap (λ (w : Plain). w.blocks) (makes m) ∙ leaves) torn;
    drive = λ h. inr (ap Err is);
    room = room;
  }

-- ---- a turn that begins a command

-- It comes out as that of the node with the command does: the event is the same, and so is what it makes.
module _ {I : Type 0} {faults : I → ℕ} {blocks : I → Option (List Block)} {n : ℕ} {old : Held I} (v : Plain) (drive : v.blocks ≡ old.world.blocks) (locks : v.locks ≡ old.world.locks) (event : next_event v n ≡ next_event old.world n) (after : after_turn v n ≡ after_turn old.world n) where
  pub begun_moves : (new : Held I) (t : Turn) → IsTurn faults blocks n (record old { world = v }) new (Ok t) → IsTurn faults blocks n old new (Ok t)
  begun_moves new t h = record {
    moved = h.moved ∙ after;
    answer = h.answer ∙ ap (told new.world n) event;
    same = tt;
    memory = λ q. absurd (cc);
    later = h.later;
    cause = h.cause;
    before = λ q. absurd (cc);
    torn = λ q. absurd (cc);
    drive = λ q. h.drive (subst (λ (bs : List Block). IsTold (blocks old.image) bs) (sym drive) q);
    room = h.room;
  }

  -- after a fault the node is without the command again
  pub begun_fails : (new back : Held I) (f : TurnFault) → IsTurn faults blocks n (record old { world = v }) new (Err f) → back.image ≡ new.image → back.world ≡ old.world → HasRoom back.world back.room → IsTurn faults blocks n old back (Err f)
  begun_fails new back f h image world room =
      let told_in : blocks back.image ≡ blocks new.image = ap blocks image in
      let here : back.world.blocks ≡ new.world.blocks = ap (λ (w : Plain). w.blocks) world ∙ sym drive ∙ sym (ap (λ (w : Plain). w.blocks) h.same) in record {
        moved = tt;
        answer = tt;
        same = world;
        memory = λ q. (λ i. takes_none (sym locks i) n (sym event i)) ∙ h.memory q;
        later = subst (λ (k : ℕ). faults old.image ≤ k) (sym (ap faults image)) h.later;
        cause = λ q. subst (λ (k : ℕ). Rose (faults old.image) k) (sym (ap faults image)) (h.cause q);
        before = λ q. ap is_write (sym event) ∙ h.before q;
        torn = λ q t. torn_back (h.torn q (subst (λ (bs : List Block). IsTold (blocks old.image) bs) (sym drive) t)) told_in;
        drive = λ t. drive_back (h.drive (subst (λ (bs : List Block). IsTold (blocks old.image) bs) (sym drive) t)) told_in here;
        room = room;
      } where
        torn_back : IsTorn (blocks old.image) (blocks new.image) v.blocks (after_turn v n).blocks → blocks back.image ≡ blocks new.image → IsTorn (blocks old.image) (blocks back.image) old.world.blocks (after_turn old.world n).blocks
        torn_back (inl q) same = inl (same ∙ q ∙ ap (told_as (blocks old.image)) drive)
        torn_back (inr q) same = inr (same ∙ q ∙ ap (λ (w : Plain). told_as (blocks old.image) w.blocks) after)

        drive_back : {P : Type 0} → (blocks new.image ≡ told_as (blocks old.image) new.world.blocks) ⊎ P → blocks back.image ≡ blocks new.image → back.world.blocks ≡ new.world.blocks → (blocks back.image ≡ told_as (blocks old.image) back.world.blocks) ⊎ P
        drive_back (inl q) same here = inl (same ∙ q ∙ ap (told_as (blocks old.image)) (sym here))
        drive_back (inr q) same here = inr q
