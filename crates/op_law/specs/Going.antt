-- What was seen goes on to fit a command while its needs are met.
use Rattle.std.specs.Prelude.{◌≡◌, ◌⊎◌, ℕ, Bool, true, List, [], ◌∷◌, ◌++◌, Option, Some, None, length}
use Rattle.base_words.specs.Fields.{Block}
use Rattle.lock_db.specs.declared.name.LockName.{LockName}
use Rattle.plain_cat.specs.declared.mode.Mode.{Mode}
use Rattle.plain_cat.specs.declared.command.Cmd.{Cmd}
use Rattle.plain_cat.specs.declared.reply.Refusal.{Refusal}
use Rattle.plain_cat.specs.declared.reply.Refusal.TheVariants.{IndexFull, DeviceFull}
use Rattle.vol_parts.specs.declared.geometry.Geometry.{Geometry}
use Rattle.op_law.specs.declared.need.Need.{Need}
use Rattle.op_law.specs.declared.need.Need.TheVariants as need
use Rattle.op_law.specs.declared.seen.Seen.{Seen}
use Rattle.op_law.specs.declared.seen.Chan.{Chan}
use Rattle.op_law.specs.Events.{space_of, has_number, HasNoSpace, SearchesOnce}
use Rattle.op_law.specs.Needs.{events_of, need_of, IsNext}
use Rattle.op_law.specs.Fits.{HasSeen}

-- what was seen and one lock more, one block more, and the space that was given, or why none was
abbrev pub with_lock : LockName → Mode → Seen → Seen
with_lock name mode seen = record seen { locks = seen.locks ++ (name, mode) ∷ [] }

abbrev pub with_block : ℕ → Block → Seen → Seen
with_block lbn b seen = record seen { blocks = seen.blocks ++ (lbn, b) ∷ [] }

abbrev pub with_space : List ℕ → Option ℕ → Option Refusal → Seen → Seen
with_space clusters number short seen = record seen { clusters = clusters; number = number; short = short }

-- the need is a look at the block of this LBN, under a lock or of a file's own
abbrev pub IsLookAt : ℕ → Need → Type 0
IsLookAt lbn (need.Block name l) = l ≡ lbn
IsLookAt lbn (need.Bare l) = l ≡ lbn
IsLookAt lbn other = ⊥

-- What a command has seen fits it at first, and still where its next need is met.
pub record GoesOn (cmd : Cmd) : Type 0 where
  -- nothing is seen
  pub first : (seen : Seen) → seen.locks ≡ [] → seen.blocks ≡ [] → HasNoSpace (space_of seen) → HasSeen cmd seen
  -- the lock was granted
  pub granted : (seen : Seen) (name : LockName) (mode : Mode) → HasSeen cmd seen → IsNext cmd seen (need.Lock name mode) → HasSeen cmd (with_lock name mode seen)
  -- the block was looked at
  pub looked : (seen : Seen) (lbn : ℕ) (b : Block) → HasSeen cmd seen → IsLookAt lbn (need_of cmd seen) → HasSeen cmd (with_block lbn b seen)
  -- so many clusters were given, and a number or none
  pub given : (seen : Seen) (clusters : ℕ) (number : Bool) (cs : List ℕ) (n : Option ℕ) → HasSeen cmd seen → IsNext cmd seen (need.Space clusters number)
      → length cs ≡ clusters → has_number number n ≡ true → HasSeen cmd (with_space cs n None seen)
  -- space was refused
  pub refused : (seen : Seen) (clusters : ℕ) (number : Bool) (why : Refusal) → HasSeen cmd seen → IsNext cmd seen (need.Space clusters number)
      → (why ≡ IndexFull) ⊎ (why ≡ DeviceFull) → HasSeen cmd (with_space [] None (Some why) seen)

-- so it is of each command that searches for space at most once
abbrev pub SeenGoesOn : Type 0
SeenGoesOn = (cmd : Cmd) → ((g : Geometry) (channel : Option Chan) → SearchesOnce (events_of g channel cmd)) → GoesOn cmd
