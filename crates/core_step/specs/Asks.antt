-- The ask behind the writes of a plan.
use Rattle.std.specs.Prelude.{◌≡◌, ◌==◌, ◌++◌, ℕ, Bool, true, false, List, [], ◌∷◌, Option, Some, None, IsSome, not, filter, if◌then◌else◌}
use Rattle.lock_db.specs.declared.name.LockName.{LockName}
use Rattle.lock_db.specs.declared.name.LockName.TheVariants.{A}
use Rattle.lock_db.specs.declared.name.Owner.{Owner}
use Rattle.lock_db.specs.declared.resource.Resource.{Resource}
use Rattle.lock_db.specs.Names.{is_same}
use Rattle.lock_db.specs.Queues.{standing_of, lock_of}
use Rattle.lock_db.specs.Resources.{goes_at_once}
use Rattle.lock_db.specs.Tables.{resource_at}
use Rattle.plain_cat.specs.declared.mode.Mode.{Mode}
use Rattle.plain_cat.specs.declared.mode.Mode.TheVariants.{CW}
use Rattle.op_law.specs.declared.need.Ask.{Ask}
use Rattle.core_state.specs.Asks.{asker_of}
use Rattle.core_state.specs.Events.{would_go}
use Rattle.core_step.specs.declared.asks.Aim.{Aim}
use Rattle.node_locks.specs.Held.{has_lock}

-- the ask of a plan, where it was not granted yet and would be
abbrev pub going_ask : List Resource → ℕ → Bool → Option Ask → Option Ask
going_ask t n tried None = None
going_ask t n true (Some a) = None
going_ask t n false (Some a) = if would_go t n a then Some a else None

-- an ask as it is made
abbrev pub aim_of : Ask → Aim
aim_of a = record { file = a.file; chan = a.chan; mode = a.mode }

-- Nobody waits for the lock of an ask, so a conversion is granted at once where a request would be.
abbrev pub GoesAsRequest : List Resource → ℕ → Option Ask → Type 0
GoesAsRequest t n ask = (a : Ask) → ask ≡ Some a → goes_at_once (asker_of n a) a.mode (resource_at (A a.file) t).askers ≡ would_go t n a

-- An owner may ask for a lock: it has none on that name, or one of which no conversion waits, and it does not ask for CW.
pub record MayAsk (name : LockName) (owner : Owner) (mode : Mode) (t : List Resource) : Type 0 where
  pub new : has_lock name owner t ≡ false → standing_of owner (resource_at name t).askers ≡ None
  pub lock : has_lock name owner t ≡ true → IsSome (lock_of owner (resource_at name t).askers)
  pub across : has_lock name owner t ≡ true → mode ≡ CW → ⊥

-- these locks, and as the last that of an ask of the file system
abbrev pub noted : List (LockName × Mode) → ℕ → LockName → Mode → List (LockName × Mode)
noted ls chan name mode = if chan == 0 then ls ++ (name, mode) ∷ [] else ls

-- the same taken back
abbrev pub unnoted : List (LockName × Mode) → ℕ → LockName → List (LockName × Mode)
unnoted ls chan name = if chan == 0 then filter (λ l. not (is_same l.0 name)) ls else ls
