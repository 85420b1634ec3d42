-- What the tables have once the claimed locks of a dead node's names are granted.
use Rattle.std.specs.Prelude.{◌≡◌, ◌≤◌, ◌&&◌, ℕ, Contains, Bool, true, List, filter, is_some, false}
use Rattle.std.specs.List.{list_any}
use Rattle.lock_db.specs.declared.name.LockName.{LockName}
use Rattle.lock_db.specs.declared.name.Owner.{Owner}
use Rattle.lock_db.specs.declared.resource.Resource.{Resource}
use Rattle.lock_db.specs.Names.{is_same}
use Rattle.lock_db.specs.Queues.{standing_of}
use Rattle.dlm_core.specs.declared.holds.Hold.{Hold}
use Rattle.dlm_core.specs.declared.blocks.Block.{Block}
use Rattle.dlm_core.specs.declared.blocks.Seen.{Seen}
use Rattle.dlm_core.specs.declared.rules.BlockRule.TheVariants.{OfHolders}
use Rattle.dlm_core.specs.States.{State, told_at, hold_at, version_at}
use Rattle.dlm_core.specs.Steps.{stands_as}
use Rattle.dlm_core.specs.Recoveries.{is_with, is_name_of, is_strong, block_for, reclaimed, closed}
use Rattle.dlm_core.specs.Lanes.{IsSound}

-- what is claimed of the names of a dead node
abbrev pub own_claims : ℕ → State → List Hold
own_claims dead s = filter (λ h. is_with true dead s h.name) s.claims

abbrev pub own_blocks : ℕ → State → List Block
own_blocks dead s = filter (λ b. is_with true dead s b.name) s.claimed_blocks

-- the value block that a name gets
abbrev pub block_of : ℕ → State → LockName → Seen
block_of dead s name = block_for s.rule (own_claims dead s) (own_blocks dead s) name

-- the last claim has come, and the claimed locks are granted
abbrev pub restored : ℕ → State → State
restored dead s = reclaimed (block_of dead s) (own_claims dead s) (closed dead s)

-- somebody claims a lock on a name
abbrev pub has_lock : LockName → List Hold → Bool
has_lock name hs = list_any (λ h. is_same h.name name && is_some h.belief) hs

-- these are the bytes of a value block and its mark
pub record IsRead (seen : Seen) (r : Resource) : Type 0 where
  pub bytes_are : r.value ≡ seen.value
  pub mark_is : r.valid ≡ seen.valid

-- The value block that claimed locks keep for a name is what the owner of one of them has seen. Above CR it keeps its mark. If no lock
-- above CR is claimed, it is not valid, and no other owner has seen a greater version.
pub record IsOfHolder (hs : List Hold) (name : LockName) (b : Seen) : Type 0 where
  pub holder : Hold
  pub claimed : Contains hs holder
  pub on_name : holder.name ≡ name
  pub has_lock : is_some holder.belief ≡ true
  pub bytes : b.value ≡ holder.seen.value
  pub counted : b.version ≡ holder.seen.version
  pub mark : b.valid ≡ (holder.seen.valid && is_strong holder.belief)
  pub weak : is_strong holder.belief ≡ false → (h : Hold) → Contains hs h → h.name ≡ name → is_some h.belief ≡ true → (is_strong h.belief ≡ false) × (h.seen.version ≤ b.version)

-- Of the dead node's names the tables have just the claimed locks, all granted and none waiting. A name with a claimed lock has the
-- value block that the rule tells, with its mark and its version; by the rule of holders it is what a claimed lock keeps. All other names
-- are as they were.
pub record IsRestored (dead : ℕ) (s : State) : Type 0 where
  pub locks : (owner : Owner) (name : LockName) → is_name_of dead s name ≡ true → standing_of owner (told_at name (restored dead s)).askers ≡ stands_as (hold_at owner name s.claims).belief
  pub blocks : (name : LockName) → is_name_of dead s name ≡ true → has_lock name (own_claims dead s) ≡ true → IsRead (block_of dead s name) (told_at name (restored dead s))
  pub versions : (name : LockName) → is_name_of dead s name ≡ true → has_lock name (own_claims dead s) ≡ true → version_at name (restored dead s).versions ≡ (block_of dead s name).version
  pub holders : s.rule ≡ OfHolders → (name : LockName) → is_name_of dead s name ≡ true → has_lock name (own_claims dead s) ≡ true → IsOfHolder (own_claims dead s) name (block_of dead s name)
  pub others : (name : LockName) → is_name_of dead s name ≡ false → told_at name (restored dead s) ≡ told_at name s

-- so it is in every state that keeps the invariant
abbrev pub RecoveriesGrantClaims : Type 0
RecoveriesGrantClaims = (dead : ℕ) (s : State) → IsSound s → IsRestored dead s
