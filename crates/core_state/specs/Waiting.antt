-- What a command waits for: a lock of its own.
use Rattle.std.specs.Prelude.{◌≡◌, ◌++◌, ◌⊎◌, ℕ, List, [], ◌∷◌, Option, Some}
use Rattle.lock_db.specs.declared.name.LockName.{LockName}
use Rattle.lock_db.specs.declared.name.LockName.TheVariants.{S}
use Rattle.plain_cat.specs.declared.mode.Mode.{Mode}
use Rattle.plain_cat.specs.declared.command.Cmd.{Cmd}
use Rattle.op_law.specs.declared.need.Need.TheVariants as need
use Rattle.op_law.specs.declared.seen.Seen.{Seen}
use Rattle.op_law.specs.Needs.{IsNext}
use Rattle.op_law.specs.Fits.{HasSeen}
use Rattle.op_law.specs.Going.{with_lock}
use Rattle.core_space.specs.declared.run.Phase.{Phase}
use Rattle.core_space.specs.declared.run.Phase.TheVariants as phase

-- the last lock that was asked for is this one
pub record IsLast (asked : List (LockName × Mode)) (name : LockName) (mode : Mode) : Type 0 where
  pub front : List (LockName × Mode)
  pub last : asked ≡ front ++ (name, mode) ∷ []

-- a lock that the command needed next, by what it had seen before
pub record WaitsForLock (x : Cmd) (asked : List (LockName × Mode)) (seen : Seen) : Type 0 where
  pub name : LockName
  pub mode : Mode
  pub before : Seen
  pub fits : HasSeen x before
  pub next : IsNext x before (need.Lock name mode)
  pub is : seen ≡ with_lock name mode before
  pub last : IsLast asked name mode

-- in this phase no rule for space is at work for the command
abbrev pub IsAside : Phase → Type 0
IsAside p = (p ≡ phase.Off) ⊎ (p ≡ phase.Back)

-- the last lock that was asked for is that of the file whose number was given
pub record AsksForNumber (asked : List (LockName × Mode)) (number : Option ℕ) : Type 0 where
  pub file : ℕ
  pub mode : Mode
  pub given : number ≡ Some file
  pub last : IsLast asked (S file) mode

-- While its rules for space are at work, a command waits for no lock of its own but that of the file whose number it was given.
abbrev pub WaitsAside : Phase → List (LockName × Mode) → Option ℕ → Type 0
WaitsAside p asked number = IsAside p ⊎ AsksForNumber asked number
