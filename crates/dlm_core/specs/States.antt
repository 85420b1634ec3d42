-- The state of the distributed lock database, and what stands in it of one owner and one name.
use Rattle.std.specs.Prelude.{◌≡◌, ◌≤◌, length, ◌==◌, ◌&&◌, ◌||◌, not, nat_lt, ℕ, ◌+◌, ◌-◌, ◌%◌, Bool, true, false, List, [], ◌∷◌, ◌++◌, Option, Some, None, filter, find, map, if◌then◌else◌, unwrap_or, replicate, get_or, is_some}
use Rattle.std.specs.List.{list_any, range_with_len}
use Rattle.plain_cat.specs.declared.mode.Mode.{Mode}
use Rattle.lock_db.specs.declared.name.LockName.{LockName}
use Rattle.lock_db.specs.declared.name.LockName.TheVariants.{S, A, Q, X, V}
use Rattle.lock_db.specs.declared.name.Owner.{Owner}
use Rattle.lock_db.specs.declared.resource.Resource.{Resource}
use Rattle.lock_db.specs.Names.{is_same, is_before, same_owner}
use Rattle.lock_db.specs.Tables.{resource_at}
use Rattle.dlm_core.specs.declared.messages.Message.{Message}
use Rattle.dlm_core.specs.declared.holds.Hold.{Hold}
use Rattle.dlm_core.specs.declared.blocks.Block.{Block}
use Rattle.dlm_core.specs.declared.blocks.Version.{Version}
use Rattle.dlm_core.specs.declared.blocks.Seen.{Seen}
use Rattle.dlm_core.specs.declared.rules.BlockRule.{BlockRule}
use Rattle.dlm_core.specs.declared.homes.Home.{Home}
use Rattle.dlm_core.specs.declared.homes.Awaited.{Awaited}
use Rattle.dlm_core.specs.declared.queue.Waiter.{Waiter}
use Rattle.dlm_core.specs.Modes.{lowers}

-- The nodes are 1 to `nodes`, and each name has one of them as its home. There is a table for the names of each home, in order of
-- homes, which the home's master keeps.
pub record State : Type 0 where
  -- which value blocks names have after a recovery
  pub rule : BlockRule
  pub nodes : ℕ
  -- the nodes that live, in order
  pub living : List ℕ
  -- the master of each home
  pub homes : List Home
  -- the table of each home
  pub tables : List (List Resource)
  -- the version of each name's value block, as its master has it
  pub versions : List Version
  -- the messages that are on their way, in the order in which they were sent
  pub mail : List Message
  -- The asks that wait at their masters, in order of names. On one name the conversions come first, and of those and of the requests
  -- the earlier.
  pub queue : List Waiter
  -- what owners believe, in order of names; on one name who believes a lock comes first, and of those and of the others the lower owner
  pub holds : List Hold
  -- the value block that each node last read or wrote, for each name
  pub blocks : List Block
  -- the dead nodes whose names are being recovered, in order of their deaths
  pub recoveries : List ℕ
  -- the nodes whose claims are still on their way
  pub awaited : List Awaited
  -- what living owners believed, and the value blocks that living nodes had last, when the masters of these names died
  pub claims : List Hold
  pub claimed_blocks : List Block
  -- the asks and drops on these names that have arrived and are kept back, in order of arrival
  pub kept : List Message

-- there are nodes, and each has a table and a master
pub record IsShaped (s : State) : Type 0 where
  pub some_node : 1 ≤ s.nodes
  pub each_has_one : length s.tables ≡ s.nodes
  pub each_has_master : length s.homes ≡ s.nodes

-- the number by which names are dealt out to the nodes
abbrev pub rank_of : LockName → ℕ
rank_of (S n) = n
rank_of (A n) = n
rank_of Q = 1
rank_of X = 2
rank_of V = 3

-- the home of a name: its first master
abbrev pub home : ℕ → LockName → ℕ
home nodes name = 1 + rank_of name % nodes

-- what stands of a home
abbrev pub home_at : ℕ → List Home → Home
home_at node homes = get_or homes (node - 1) (record { master = 0; recovers = None })

-- the master of a name
abbrev pub master : LockName → State → ℕ
master name s = (home_at (home s.nodes name) s.homes).master

-- the dead node whose names are being recovered, where this name is one of them
abbrev pub recovery : LockName → State → Option ℕ
recovery name s = (home_at (home s.nodes name) s.homes).recovers

-- the table of a home
abbrev pub table_at : ℕ → List (List Resource) → List Resource
table_at node tables = get_or tables (node - 1) []

-- the union of all tables, told by name: the resource of a name in the table of its home
abbrev pub told_at : LockName → State → Resource
told_at name s = resource_at name (table_at (home s.nodes name) s.tables)

-- a node lives
abbrev pub lives : ℕ → State → Bool
lives node s = list_any (λ k. k == node) s.living

-- a message from a node to a node
abbrev pub is_between : ℕ → ℕ → Message → Bool
is_between from to m = (m.from == from) && (m.to == to)

-- the list without the first that passes
abbrev pub past_first : (Message → Bool) → List Message → List Message
past_first p [] = []
past_first p (m ∷ ms) = if p m then ms else m ∷ past_first p ms

module _ {A : Type 0} where
  -- the list with one more element, in front of the first that passes
  abbrev pub put_before : (A → Bool) → A → List A → List A
  put_before p a [] = a ∷ []
  put_before p a (x ∷ xs) = if p x then a ∷ (x ∷ xs) else x ∷ put_before p a xs

-- a change is made for each element, one after the other
module _ {A B : Type 0} where
  abbrev pub in_turn : (A → B → B) → List A → B → B
  in_turn f [] s = s
  in_turn f (a ∷ rest) s = in_turn f rest (f a s)

-- what stands of this owner and this name
abbrev pub is_at : Owner → LockName → Hold → Bool
is_at owner name h = same_owner h.owner owner && is_same h.name name

-- what an owner has seen that has read and written nothing
abbrev pub unseen : Seen
unseen = record { value = replicate 16 0; valid = false; version = 0 }

-- what an owner believes of a name: nothing, where nothing is noted
abbrev pub hold_at : Owner → LockName → List Hold → Hold
hold_at owner name hs = unwrap_or (find (is_at owner name) hs) (record { owner = owner; name = name; belief = None; wait = None; seen = unseen })

-- an owner comes before another: by node, and on one node by part
abbrev pub is_lower : Owner → Owner → Bool
is_lower a b = nat_lt a.node b.node || ((a.node == b.node) && nat_lt a.part b.part)

-- of two that believe a lock, or none, on one name: the lower owner; else who believes one
abbrev pub is_earlier_on : Bool → Bool → Owner → Owner → Bool
is_earlier_on true true a b = is_lower a b
is_earlier_on true false a b = true
is_earlier_on false true a b = false
is_earlier_on false false a b = is_lower a b

-- what comes before in the order of what owners believe
abbrev pub is_earlier : Hold → Hold → Bool
is_earlier a b = is_before a.name b.name || (is_same a.name b.name && is_earlier_on (is_some a.belief) (is_some b.belief) a.owner b.owner)

-- it believes this now
abbrev pub noted : Hold → List Hold → List Hold
noted h hs = put_before (λ k. is_earlier h k) h (filter (λ k. not (is_at h.owner h.name k)) hs)

-- what it believes once it has asked
abbrev pub asked_hold : Hold → Mode → Hold
asked_hold h mode = if lowers h.belief mode then record h { belief = Some mode } else record h { wait = Some mode }

-- the value block that a node last read or wrote on a name: zeros of version 0, where none is noted
abbrev pub is_block_of : ℕ → LockName → Block → Bool
is_block_of node name b = (b.node == node) && is_same b.name name

abbrev pub block_at : ℕ → LockName → List Block → Block
block_at node name bs = unwrap_or (find (is_block_of node name) bs) (record { node = node; name = name; value = replicate 16 0; version = 0 })

abbrev pub noted_block : Block → List Block → List Block
noted_block b bs = filter (λ c. not (is_block_of b.node b.name c)) bs ++ b ∷ []

-- the version of a name's value block: 0, where none is noted
abbrev pub version_at : LockName → List Version → ℕ
version_at name vs = (unwrap_or (find (λ v. is_same v.name name) vs) (record { name = name; version = 0 })).version

abbrev pub noted_version : LockName → ℕ → List Version → List Version
noted_version name version vs = filter (λ v. not (is_same v.name name)) vs ++ record { name = name; version = version } ∷ []

-- each home is its own master
abbrev pub own_home : ℕ → Home
own_home node = record { master = node; recovers = None }

-- nobody has asked for anything
abbrev pub start : BlockRule → ℕ → State
start rule nodes = record {
  rule = rule;
  nodes = nodes;
  living = range_with_len 1 nodes;
  homes = map own_home (range_with_len 1 nodes);
  tables = replicate nodes [];
  versions = [];
  mail = [];
  queue = [];
  holds = [];
  blocks = [];
  recoveries = [];
  awaited = [];
  claims = [];
  claimed_blocks = [];
  kept = [];
}
