-- What the death of a node makes of the others.
use Rattle.std.specs.Prelude.{◌==◌, ◌&&◌, ◌||◌, not, ℕ, Bool, List, [], ◌∷◌, ◌++◌, Some, filter, map, if◌then◌else◌, replicate}
use Rattle.std.specs.List.{list_any}
use Rattle.lock_db.specs.declared.name.LockName.{LockName}
use Rattle.lock_db.specs.declared.name.LockName.TheVariants.{V}
use Rattle.lock_db.specs.declared.resource.Resource.{Resource}
use Rattle.lock_db.specs.Tables.{dropped}
use Rattle.dlm_core.specs.declared.messages.Letter.TheVariants.{Claim}
use Rattle.dlm_core.specs.declared.messages.Message.{Message}
use Rattle.dlm_core.specs.declared.holds.Hold.{Hold}
use Rattle.dlm_core.specs.declared.blocks.Block.{Block}
use Rattle.dlm_core.specs.declared.homes.Home.{Home}
use Rattle.dlm_core.specs.declared.homes.Awaited.{Awaited}
use Rattle.dlm_core.specs.States.{State, master}
use Rattle.dlm_core.specs.Steps.{served}
use Rattle.dlm_core.specs.Recoveries.{is_of_recovery, all_ended}

-- the lowest node that lives: 0, where none does
abbrev pub lowest : List ℕ → ℕ
lowest [] = 0
lowest (n ∷ ns) = n

-- who lives then
abbrev pub without_dead : ℕ → List ℕ → List ℕ
without_dead dead ns = filter (λ n. not (n == dead)) ns

-- the homes of the dead node get another master, which recovers them
abbrev pub rehomed : ℕ → ℕ → Home → Home
rehomed dead next h = if h.master == dead then record { master = next; recovers = Some dead } else h

-- the tables of these homes are lost, and from the others the dead node's locks and requests are dropped
abbrev pub bereft_table : ℕ → Home → List Resource → List Resource
bereft_table dead h t = if h.master == dead then [] else dropped dead t

abbrev pub bereft_tables : ℕ → List Home → List (List Resource) → List (List Resource)
bereft_tables dead hs [] = []
bereft_tables dead [] (t ∷ ts) = t ∷ ts
bereft_tables dead (h ∷ hs) (t ∷ ts) = bereft_table dead h t ∷ bereft_tables dead hs ts

-- a message from the dead node or to it
abbrev pub is_lost : ℕ → Message → Bool
is_lost dead m = (m.from == dead) || (m.to == dead)

-- the dead node has been this name's master
abbrev pub was_master : ℕ → State → LockName → Bool
was_master dead s name = master name s == dead

-- a recovery goes on: its names have not got another master
abbrev pub goes_on : List Home → ℕ → Bool
goes_on hs dead = list_any (λ h. is_of_recovery dead h.recovers) hs

-- what the living believe, and what they read or wrote last
abbrev pub left_holds : ℕ → State → List Hold
left_holds dead s = filter (λ h. not (h.owner.node == dead)) s.holds

abbrev pub left_blocks : ℕ → State → List Block
left_blocks dead s = filter (λ b. not (b.node == dead)) s.blocks

abbrev pub left_awaited : ℕ → List Home → List Awaited → List Awaited
left_awaited dead hs ws = filter (λ w. not (w.node == dead) && goes_on hs w.dead) ws

-- What its owners waited for and believed, and what it read and wrote, is forgotten. Nobody waits at it.
abbrev pub buried : ℕ → State → State
buried dead s = record s {
  queue = filter (λ w. not (w.owner.node == dead) && not (was_master dead s w.name)) s.queue;
  holds = left_holds dead s;
  blocks = left_blocks dead s;
}

-- Of the names that it was the master of, what the living believe now is claimed, and what they read or wrote last.
abbrev pub with_claimed : ℕ → State → State
with_claimed dead s = record s {
  claims = filter (λ h. not (h.owner.node == dead) && not (was_master dead s h.name)) s.claims ++ filter (λ h. was_master dead s h.name) s.holds;
  claimed_blocks = filter (λ b. not (b.node == dead) && not (was_master dead s b.name)) s.claimed_blocks ++ filter (λ b. was_master dead s b.name) s.blocks;
}

-- its messages, and those to it, are lost
abbrev pub without_mail : ℕ → State → State
without_mail dead s = record s {
  mail = filter (λ m. not (is_lost dead m)) s.mail;
  kept = filter (λ m. not (is_lost dead m)) s.kept;
}

-- these live, and these are the homes: the tables that the dead node kept are lost, and a claim of each living node is awaited
abbrev pub rehomed_to : ℕ → List ℕ → List Home → State → State
rehomed_to dead living homes s = record s {
  homes = homes;
  tables = bereft_tables dead s.homes s.tables;
  recoveries = filter (goes_on homes) s.recoveries ++ dead ∷ [];
  awaited = left_awaited dead homes s.awaited ++ map (λ n. record { dead = dead; node = n }) living;
}

-- A node is dead.
abbrev pub bereft_of : ℕ → List ℕ → List Home → State → State
bereft_of dead living homes s = record (rehomed_to dead living homes (without_mail dead (with_claimed dead (buried dead s)))) { living = living }

abbrev pub bereft : ℕ → State → State
bereft dead s = bereft_of dead (without_dead dead s.living) (map (rehomed dead (lowest (without_dead dead s.living))) s.homes) s

-- The message of a claim. It is about no single lock: part 0 of its node stands for the owner, and V for the name.
abbrev pub claim_from : ℕ → ℕ → ℕ → Message
claim_from dead next node = record {
  from = node;
  to = next;
  owner = record { node = node; part = 0 };
  name = V;
  letter = Claim dead;
  value = replicate 16 0;
  version = 0;
}

-- each living node sends its claim to the new master
abbrev pub with_claims : ℕ → State → State
with_claims dead s = record s { mail = s.mail ++ map (claim_from dead (lowest s.living)) s.living }

abbrev pub with_ended : State → State
with_ended s = all_ended s.recoveries s

abbrev pub killed : ℕ → State → State
killed dead s = with_claims dead (with_ended (served (bereft dead s)))
