-- A node that goes on with its command.
use Rattle.std.specs.Prelude.{◌≡◌, ◌≤◌, ℕ, Bool, true, false, Some, None}
use Rattle.plain_cat.specs.declared.command.Cmd.{Cmd}
use Rattle.plain_rules.specs.Lookups.{header_most}
use Rattle.plain_rules.specs.Own.{next_command}
use Rattle.node_locks.specs.Held.{waits_at}
use Rattle.op_law.specs.declared.need.Need.{Need}
use Rattle.op_law.specs.declared.need.Need.TheVariants as need
use Rattle.op_law.specs.Events.{space_of, HasNoSpace}
use Rattle.op_law.specs.Needs.{IsNext}
use Rattle.op_law.specs.declared.seen.Seen.{Seen}
use Rattle.op_law.specs.Knows.{clusters_wanted, takes_space, wants_number}
use Rattle.core_space.specs.declared.run.Phase.{Phase}
use Rattle.core_space.specs.declared.run.Phase.TheVariants as phase
use Rattle.core_state.specs.Worlds.{NodeState, Plain, node_at}
use Rattle.core_state.specs.Event.{Event}
use Rattle.core_state.specs.Events.{is_out, gives_back, serves, served, readied, next_event}

-- the next event of node n is k, and the node prepares nothing for it
pub record Makes (w : Plain) (n : ℕ) (k : Event) : Type 0 where
  pub event : next_event w n ≡ k
  pub stays : readied w n ≡ w

-- node n has begun a command and goes on by it, and not by a give-back: it is not over, and waits for nothing
pub record IsBegun (w : Plain) (n : ℕ) : Type 0 where
  pub state : NodeState
  pub at : node_at w.nodes n ≡ Some state
  pub cmd : Cmd
  pub has : state.cmd ≡ Some cmd
  pub on : is_out state ≡ false
  pub gives : gives_back w n state ≡ false
  pub free : waits_at w.locks n state.asked ≡ false
  pub granted : waits_at w.locks n state.claims ≡ false

-- and its command was given what its stock has for it
pub record IsReady (w : Plain) (n : ℕ) : Type 0 where
  pub state : NodeState
  pub at : node_at w.nodes n ≡ Some state
  pub cmd : Cmd
  pub has : state.cmd ≡ Some cmd
  pub on : is_out state ≡ false
  pub gives : gives_back w n state ≡ false
  pub free : waits_at w.locks n state.asked ≡ false
  pub granted : waits_at w.locks n state.claims ≡ false
  pub served : served state ≡ state

-- a node without the command that it has begun
abbrev pub forgotten : NodeState → NodeState
forgotten s = record s { cmd = None; seen = record s.seen { channel = None } }

-- node n begins the command x
pub record Begins (w : Plain) (n : ℕ) (x : Cmd) : Type 0 where
  pub state : NodeState
  pub at : node_at w.nodes n ≡ Some state
  pub idle : state.cmd ≡ None
  pub on : is_out state ≡ false
  pub gives : gives_back w n state ≡ false
  pub granted : waits_at w.locks n state.claims ≡ false
  pub next : next_command w.script n w.history ≡ Some x

-- the command of node n needs this next
abbrev pub NeedsNow : Plain → ℕ → Need → Type 0
NeedsNow w n next = (s : NodeState) (x : Cmd) → node_at w.nodes n ≡ Some s → s.cmd ≡ Some x → IsNext x s.seen next

-- where it needs space, its stock is not enough
abbrev pub LacksSpace : Plain → ℕ → Need → Type 0
LacksSpace w n next = (s : NodeState) (clusters : ℕ) (number : Bool) → node_at w.nodes n ≡ Some s → next ≡ need.Space clusters number → serves s clusters number ≡ false

-- the command with this seen searches for so many clusters, and a number or none: for something
pub record WantsSpace (seen : Seen) (x : Cmd) (clusters : ℕ) (number : Bool) : Type 0 where
  pub takes : takes_space x ≡ true
  pub clusters_are : clusters_wanted seen.geometry.cluster x ≡ clusters
  pub number_is : wants_number seen x ≡ number
  pub some : (clusters ≡ 0) × (number ≡ false) → ⊥

-- the rules for space of a command are begun
abbrev pub is_searching : Phase → Bool
is_searching phase.Off = false
is_searching phase.Back = false
is_searching other = true

-- they are for that, and have come to nothing yet
pub record IsSearching (s : NodeState) (x : Cmd) (clusters : ℕ) (number : Bool) : Type 0 where
  pub rules : is_searching s.run.phase ≡ true
  pub none : HasNoSpace (space_of s.seen)
  pub wants : WantsSpace s.seen x clusters number

-- what a node searches for, its command needs
abbrev pub SearchesAsNeeded : NodeState → Type 0
SearchesAsNeeded s = (x : Cmd) (clusters : ℕ) (number : Bool) → s.cmd ≡ Some x → IsSearching s x clusters number → IsNext x s.seen (need.Space clusters number)

-- it searches for nothing that a file can have
abbrev pub IsNotSearching : NodeState → Type 0
IsNotSearching s = (x : Cmd) (clusters : ℕ) (number : Bool) → s.cmd ≡ Some x → IsSearching s x clusters number → clusters ≤ header_most → ⊥

-- the command of node n needs no space any more
abbrev pub IsGivenAll : Plain → ℕ → Type 0
IsGivenAll w n = (s : NodeState) (x : Cmd) (clusters : ℕ) (number : Bool) → node_at w.nodes n ≡ Some s → s.cmd ≡ Some x → IsNext x s.seen (need.Space clusters number) → ⊥
