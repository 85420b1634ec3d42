-- What a turn comes to.
use Rattle.std.specs.Prelude.{◌≡◌, ◌≤◌, ◌⊎◌, ℕ, true, false, List, Option, Result, Err, IfOk, OnOk, OnErr}
use Rattle.base_words.specs.Fields.{Block}
use Rattle.base_words.specs.Faults.{Rose}
use Rattle.plain_cat.specs.declared.command.Cmd.{Cmd}
use Rattle.core_state.specs.declared.cluster.Core.{Core}
use Rattle.core_state.specs.Worlds.{Held, plain_of}
use Rattle.core_state.specs.Goods.{HasRoom}
use Rattle.core_state.specs.Images.{IsTorn}
use Rattle.blk_drive.specs.Telling.{IsTold}
use Rattle.blk_drive.specs.Telling.{told_as}
use Rattle.core_state.specs.Events.{is_write, next_event, after_turn}
use Rattle.core_step.specs.declared.turns.Turn.{Turn}
use Rattle.core_step.specs.declared.turns.TurnFault.{TurnFault}
use Rattle.core_step.specs.declared.turns.TurnFault.TheVariants as fault
use Rattle.core_step.specs.Memory.{takes_none}
use Rattle.core_step.specs.Turns.{told}

-- the world that these fields make, the image below its drive, and the room of its history
abbrev pub held_of : {I O : Type 0} → (O → Cmd) → Core I O → Held I
held_of cmd_is c = record { world = plain_of cmd_is c; image = c.mirror.image; room = c.history.room }

-- A turn of node n. It makes the next event and tells so, or it answers a fault, and the world is as before.
--
-- It lacks memory only where the event takes any. The image fails only at a write, and has counted that: if it had the blocks of
-- the drive before, it has then those from before the turn or those that the turn would have left, and in all other cases those of
-- the drive. The history has room for the answer of each node that has decided.
pub record IsTurn {I : Type 0} (faults : I → ℕ) (blocks : I → Option (List Block)) (n : ℕ) (old new : Held I) (result : Result Turn TurnFault) : Type 0 where
  pub moved : OnOk result (new.world ≡ after_turn old.world n)
  pub answer : IfOk result (λ t. t ≡ told new.world n (next_event old.world n))
  pub same : OnErr result (new.world ≡ old.world)
  pub memory : result ≡ Err fault.NoMemory → takes_none old.world.locks n (next_event old.world n) ≡ false
  pub later : faults old.image ≤ faults new.image
  pub cause : result ≡ Err fault.ImageFault → Rose (faults old.image) (faults new.image)
  pub before : result ≡ Err fault.ImageFault → is_write (next_event old.world n) ≡ true
  pub torn : result ≡ Err fault.ImageFault → IsTold (blocks old.image) old.world.blocks → IsTorn (blocks old.image) (blocks new.image) old.world.blocks (after_turn old.world n).blocks
  pub drive : IsTold (blocks old.image) old.world.blocks → (blocks new.image ≡ told_as (blocks old.image) new.world.blocks) ⊎ (result ≡ Err fault.ImageFault)
  pub room : HasRoom new.world new.room
