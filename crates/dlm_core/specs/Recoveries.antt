-- How the names of a dead node are recovered from the claims of the living.
use Rattle.std.specs.Prelude.{◌==◌, ◌&&◌, ◌||◌, not, nat_lt, ℕ, Bool, true, false, List, Option, Some, None, filter, find, map, if◌then◌else◌, is_some}
use Rattle.std.specs.List.{list_any}
use Rattle.plain_cat.specs.declared.mode.Mode.{Mode}
use Rattle.plain_cat.specs.declared.mode.Mode.TheVariants.{NL, CR, CW, PR, PW, EX}
use Rattle.lock_db.specs.declared.name.LockName.{LockName}
use Rattle.lock_db.specs.declared.resource.Resource.{Resource}
use Rattle.lock_db.specs.Names.{is_same}
use Rattle.lock_db.specs.Queues.{mode_of}
use Rattle.lock_db.specs.Tables.{recovered}
use Rattle.dlm_core.specs.declared.messages.Letter.TheVariants.{Ask}
use Rattle.dlm_core.specs.declared.messages.Message.{Message}
use Rattle.dlm_core.specs.declared.holds.Hold.{Hold}
use Rattle.dlm_core.specs.declared.blocks.Block.{Block}
use Rattle.dlm_core.specs.declared.blocks.Seen.{Seen}
use Rattle.dlm_core.specs.declared.rules.BlockRule.{BlockRule}
use Rattle.dlm_core.specs.declared.rules.BlockRule.TheVariants.{OfHolders, OfAll}
use Rattle.dlm_core.specs.declared.homes.Home.{Home}
use Rattle.dlm_core.specs.declared.homes.Awaited.{Awaited}
use Rattle.dlm_core.specs.States.{State, home, master, recovery, table_at, told_at, in_turn, unseen, noted_version}
use Rattle.dlm_core.specs.Steps.{served, ask_made, put_last, with_table, taken_all}

-- the names of this dead node are being recovered
abbrev pub is_of_recovery : ℕ → Option ℕ → Bool
is_of_recovery dead None = false
is_of_recovery dead (Some k) = k == dead

-- this name is one of them
abbrev pub is_name_of : ℕ → State → LockName → Bool
is_name_of dead s name = is_of_recovery dead (recovery name s)

-- a name is one of them, or it is none
abbrev pub is_with : Bool → ℕ → State → LockName → Bool
is_with true dead s name = is_name_of dead s name
is_with false dead s name = not (is_name_of dead s name)

-- of two claimed value blocks the one of the greater version, and of equal versions that of the lower node
abbrev pub is_better : Block → Block → Bool
is_better a b = nat_lt b.version a.version || ((a.version == b.version) && nat_lt a.node b.node)

abbrev pub better : Block → Option Block → Option Block
better b None = Some b
better b (Some a) = if is_better b a then Some b else Some a

-- a value block that is not valid
abbrev pub not_valid : Option Block → Seen
not_valid None = unseen
not_valid (Some b) = record { value = b.value; valid = false; version = b.version }

-- the claimed value block of the greatest version, not valid: zeros, where none is claimed
abbrev pub best_block : LockName → List Block → Seen
best_block name bs = not_valid (in_turn better (filter (λ b. is_same b.name name) bs) None)

-- a mode above CR: while one owner has the name in such a mode no other writes its value block
abbrev pub is_strong : Option Mode → Bool
is_strong None = false
is_strong (Some NL) = false
is_strong (Some CR) = false
is_strong (Some CW) = true
is_strong (Some PR) = true
is_strong (Some PW) = true
is_strong (Some EX) = true

-- of two claimed locks the one whose owner has seen the greater version, and of equal versions the earlier
abbrev pub later : Hold → Option Hold → Option Hold
later h None = Some h
later h (Some k) = if nat_lt k.seen.version h.seen.version then Some h else Some k

-- of the claimed locks on a name the one whose owner has seen the greatest version
abbrev pub latest : LockName → List Hold → Option Hold
latest name hs = in_turn later (filter (λ h. is_same h.name name && is_some h.belief) hs) None

-- what its owner has seen, not valid
abbrev pub unmarked : Option Hold → Seen
unmarked None = unseen
unmarked (Some h) = record h.seen { valid = false }

-- The value block that claimed locks keep: what one above CR has seen, with its mark. Where none is, the latest that others have
-- seen, not valid.
abbrev pub kept_by : Option Hold → Option Hold → Seen
kept_by None last = unmarked last
kept_by (Some h) last = h.seen

abbrev pub held_block : LockName → List Hold → Seen
held_block name hs = kept_by (find (λ h. is_same h.name name && is_strong h.belief) hs) (latest name hs)

-- the value block of a name whose claims have all come
abbrev pub block_for : BlockRule → List Hold → List Block → LockName → Seen
block_for OfHolders hs bs name = held_block name hs
block_for OfAll hs bs name = best_block name bs

-- A claimed ask, as a message that the owner sends once more. The master takes it with the claimed value block.
abbrev pub again : Hold → Mode → Seen → State → Message
again h mode b s = record { from = h.owner.node; to = master h.name s; owner = h.owner; name = h.name; letter = Ask mode; value = b.value; version = b.version }

-- an ask is made of the table, and the name has the claimed value block, with this mark
abbrev pub made_again : Bool → Message → Option Mode → Mode → List Resource → List Resource
made_again valid m old mode t = recovered m.name m.value valid (ask_made m old mode t)

-- a claimed lock is granted
abbrev pub reclaimed_from : Bool → Message → Option Mode → Mode → List Resource → State → State
reclaimed_from valid m old mode t s = with_table m.name (made_again valid m old mode t) (record s { versions = noted_version m.name m.version s.versions })

abbrev pub reclaimed_lock : Hold → Option Mode → Seen → State → State
reclaimed_lock h None b s = s
reclaimed_lock h (Some mode) b s =
    reclaimed_from b.valid (again h mode b s) (mode_of h.owner (told_at h.name s).askers) mode (table_at (home s.nodes h.name) s.tables) s

abbrev pub reclaimed_one : (LockName → Seen) → Hold → State → State
reclaimed_one bs h s = reclaimed_lock h h.belief (bs h.name) s

abbrev pub reclaimed : (LockName → Seen) → List Hold → State → State
reclaimed bs hs s = in_turn (reclaimed_one bs) hs s

-- a claimed ask is taken
abbrev pub asked_again_from : Bool → Message → Option Mode → Mode → List Resource → State → State
asked_again_from valid m old mode t s =
    served (with_table m.name (made_again valid m old mode t) (record s { queue = put_last m old mode s.queue; versions = noted_version m.name m.version s.versions }))

abbrev pub asked_again : Hold → Option Mode → Seen → State → State
asked_again h None b s = s
asked_again h (Some mode) b s =
    asked_again_from b.valid (again h mode b s) (mode_of h.owner (told_at h.name s).askers) mode (table_at (home s.nodes h.name) s.tables) s

abbrev pub asked_again_one : (LockName → Seen) → Hold → State → State
asked_again_one bs h s = asked_again h h.wait (bs h.name) s

abbrev pub all_asked_again : (LockName → Seen) → List Hold → State → State
all_asked_again bs hs s = in_turn (asked_again_one bs) hs s

-- these names are not being recovered any more
abbrev pub settled_home : ℕ → Home → Home
settled_home dead h = if is_of_recovery dead h.recovers then record h { recovers = None } else h

abbrev pub closed : ℕ → State → State
closed dead s = record s {
  homes = map (settled_home dead) s.homes;
  recoveries = filter (λ k. not (k == dead)) s.recoveries;
  claims = filter (λ h. is_with false dead s h.name) s.claims;
  claimed_blocks = filter (λ b. is_with false dead s b.name) s.claimed_blocks;
  kept = filter (λ m. is_with false dead s m.name) s.kept;
}

-- A recovery ends. The claimed locks are granted, then the claimed conversions and requests are taken, name after name, and then
-- what was kept back.
abbrev pub recovered_with : (LockName → Seen) → List Hold → List Message → State → State
recovered_with bs hs ms s = taken_all ms (all_asked_again bs hs (reclaimed bs hs s))

abbrev pub ended : ℕ → State → State
ended dead s =
    recovered_with (block_for s.rule (filter (λ h. is_with true dead s h.name) s.claims) (filter (λ b. is_with true dead s b.name) s.claimed_blocks)) (filter (λ h. is_with true dead s h.name) s.claims)
    (filter (λ m. is_with true dead s m.name) s.kept) (closed dead s)

-- a claim is still on its way
abbrev pub is_open : ℕ → List Awaited → Bool
is_open dead ws = list_any (λ w. w.dead == dead) ws

-- the recoveries for which no claim is on its way any more end, in order of the deaths
abbrev pub ended_if : ℕ → State → State
ended_if dead s = if is_open dead s.awaited then s else ended dead s

abbrev pub all_ended : List ℕ → State → State
all_ended ds s = in_turn ended_if ds s
