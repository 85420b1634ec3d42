-- What a node keeps beyond its commands: locks, a stock, and cached blocks.
use Rattle.std.specs.Prelude.{◌≡◌, ◌≢◌, ◌⊎◌, ◌≤◌, ◌+◌, ◌++◌, ℕ, true, List, [], Option, Some, None, length, take, slice_get, if◌then◌else◌}
use Rattle.lock_db.specs.declared.name.LockName.{LockName}
use Rattle.lock_db.specs.declared.name.LockName.TheVariants.{X, V}
use Rattle.lock_db.specs.Tables.{resource_at}
use Rattle.node_cache.specs.Cached.{Cached, IsCache}
use Rattle.plain_cat.specs.declared.mode.Mode.{Mode}
use Rattle.plain_cat.specs.declared.mode.Mode.TheVariants.{NL, CR, PW}
use Rattle.plain_cat.specs.declared.command.Cmd.{Cmd}
use Rattle.plain_cat.specs.declared.cat.Cat.{Cat}
use Rattle.base_words.specs.Lists.{Has}
use Rattle.vol_spell.specs.Owners.{Owners, nothing}
use Rattle.vol_parts.specs.declared.geometry.Geometry.{Geometry}
use Rattle.vol_under.specs.Guards.{Lock, guard_of}
use Rattle.node_locks.specs.Held.{system_of, has_lock, all_held, without}
use Rattle.node_locks.specs.Sequences.{guards_blocks, rise}
use Rattle.op_law.specs.declared.need.Need.TheVariants as need
use Rattle.op_law.specs.declared.need.PlanWrite.{PlanWrite}
use Rattle.op_law.specs.Needs.{IsNext}
use Rattle.op_law.specs.Fits.{things}
use Rattle.op_law.specs.Laws.{held_in, IsCacheable}
use Rattle.core_space.specs.Filling.{spare_numbers}
use Rattle.core_space.specs.declared.run.Phase.{Phase}
use Rattle.core_space.specs.declared.run.Phase.TheVariants as phase
use Rattle.core_state.specs.Worlds.{Stock, empty_stock, NodeState, Plain, node_at, rows_of}
use Rattle.core_state.specs.Asks.{writes_now}
use Rattle.core_state.specs.Stocks.{stock_now}
use Rattle.core_state.specs.Raises.{is_first_part, raise_of}
use Rattle.core_state.specs.Caches.{sequence_now}

-- a lock on X that is kept in this phase of the rules for space: in CR, but where all free space is searched
abbrev pub IsKeptX : Phase → LockName × Mode → Type 0
IsKeptX p l = (l.0 ≡ X) × ((l.1 ≡ CR) ⊎ (p ≡ phase.Last))

-- a lock in NL, under which cached blocks may be
abbrev pub IsKeptLow : LockName × Mode → Type 0
IsKeptLow l = (guards_blocks l.0 ≡ true) × (l.1 ≡ NL)

-- the locks that are kept: locks in NL, and X
abbrev pub AreKept : Phase → List (LockName × Mode) → Type 0
AreKept p locks = (l : LockName × Mode) → Has locks l → IsKeptLow l ⊎ IsKeptX p l

-- What a node keeps in this phase: locks, of which besides X and V at most 64, and cached blocks under locks that guard blocks.
pub record HasStore (p : Phase) (lasting : List (LockName × Mode)) (blocks : List Cached) : Type 0 where
  pub kept : AreKept p lasting
  pub few : length (without X (without V lasting)) ≤ 64
  pub cache : IsCache blocks
  pub guarding : (e : Cached) → Has blocks e → guards_blocks e.lock ≡ true

-- a node that is over has nothing: no command, no lock, no stock and no cached block
pub record IsGone (x : Option Cmd) (own lasting claimed : List (LockName × Mode)) (free : Stock) (blocks : List Cached) : Type 0 where
  pub cmd : x ≡ None
  pub asked : own ≡ []
  pub kept : lasting ≡ []
  pub claims : claimed ≡ []
  pub stock : free ≡ empty_stock
  pub cache : blocks ≡ []

-- nothing was given to its command, and it has nothing in its stock, nor taken for it
pub record HasNothing (s : NodeState) : Type 0 where
  pub given : things s.seen.clusters s.seen.number ≡ nothing
  pub stock : stock_now s.stock s.run ≡ nothing

-- Its command needs a file number next. The stock was filled for that, or may have been, so that it has one more than the spare ones.
pub record NeedsNumber (s : NodeState) : Type 0 where
  pub command : Cmd
  pub is : s.cmd ≡ Some command
  pub clusters : ℕ
  pub next : IsNext command s.seen (need.Space clusters true)
  pub most : length s.stock.numbers ≤ 1 + spare_numbers

-- a stock has at most the spare file numbers, or one more for its command
abbrev pub HasFewNumbers : NodeState → Type 0
HasFewNumbers s = (length s.stock.numbers ≤ spare_numbers) ⊎ NeedsNumber s

-- who was given clusters or a number, or has any in its stock or taken for it, keeps X in CR or more; and its stock has few file
-- numbers
pub record IsStocked (s : NodeState) : Type 0 where
  pub holds : HasNothing s ⊎ Has (held_in CR s.kept) X
  pub few : HasFewNumbers s

-- ---- cached blocks

-- the writes that a node has made under locks that it holds still: those of its rules for space, and those of its plan
abbrev pub hold_writes : NodeState → List PlanWrite
hold_writes s = take s.run.made s.run.writes ++ take s.done (writes_now s.tried s.plan)

-- by how much such writes raise the part of a block, under its lock
abbrev pub part_raise : Geometry → LockName → ℕ → List PlanWrite → ℕ
part_raise g name lbn ws = if is_first_part g name lbn then (raise_of g name ws).first else (raise_of g name ws).second

-- and by how much the node's lowering of the lock will raise it then: by one at least, where the value block is not valid
abbrev pub rise_now : Plain → NodeState → LockName → ℕ → ℕ
rise_now w s name lbn = rise (resource_at name w.locks).valid (part_raise w.geometry name lbn (hold_writes s))

-- the file system of node n, which stands as s, holds a lock in PW
abbrev pub IsWriter : Plain → ℕ → NodeState → LockName → Type 0
IsWriter w n s name = Has (held_in PW (all_held w.locks n (rows_of s))) name

-- node m has written to the part of an entry, under its lock, since it holds that
pub record HasWritten (w : Plain) (m : ℕ) (e : Cached) : Type 0 where
  pub state : NodeState
  pub at : node_at w.nodes m ≡ Some state
  pub raises : 1 ≤ part_raise w.geometry e.lock e.lbn (hold_writes state)

-- no other node has
abbrev pub IsUnwritten : Plain → ℕ → Cached → Type 0
IsUnwritten w n e = (m : ℕ) → m ≢ n → HasWritten w m e → ⊥

-- an entry is the drive's block, its lock guards it, and it may be cached
pub record IsTrue (w : Plain) (own : Owners) (c : Cat) (e : Cached) : Type 0 where
  pub block : slice_get w.blocks e.lbn ≡ Some e.block
  pub guard : guard_of w.geometry own e.lbn ≡ Some (Lock e.lock)
  pub kind : IsCacheable w.geometry own c e.lbn

-- the sequence of an entry's part, now
abbrev pub now_of : Plain → Cached → ℕ
now_of w e = sequence_now w.geometry w.locks e.lock e.lbn

-- an entry is current
pub record IsCurrent (w : Plain) (e : Cached) : Type 0 where
  pub valid : (resource_at e.lock w.locks).valid ≡ true
  pub same : e.seq ≡ now_of w e

-- an entry is one ahead, which its node's lowering of the lock makes good
pub record IsAhead (w : Plain) (n : ℕ) (s : NodeState) (e : Cached) : Type 0 where
  pub seq : e.seq ≡ now_of w e + 1
  pub writer : IsWriter w n s e.lock
  pub rises : 1 ≤ rise_now w s e.lock e.lbn

-- An entry in the cache of node n, which stands as s.
pub record IsCachedAt (w : Plain) (own : Owners) (c : Cat) (n : ℕ) (s : NodeState) (e : Cached) : Type 0 where
  -- the node holds its lock, in NL or more, also where a conversion of it waits
  pub held : has_lock e.lock (system_of n) w.locks ≡ true
  -- its sequence is at most that of its part, or one ahead
  pub near : (e.seq ≤ now_of w e) ⊎ IsAhead w n s e
  -- where it is current, it is true, unless another node has written to its part
  pub now : IsCurrent w e → IsUnwritten w n e → IsTrue w own c e
  -- where it is one ahead, it is true
  pub ahead : IsAhead w n s e → IsTrue w own c e

-- so it is of all entries of all caches
abbrev pub AreCached : Plain → Owners → Cat → Type 0
AreCached w own c = (n : ℕ) (s : NodeState) (e : Cached) → node_at w.nodes n ≡ Some s → Has s.cache e → IsCachedAt w own c n s e

-- each node has made its writes under locks that it holds in PW
abbrev pub AreHeldWrites : Plain → Type 0
AreHeldWrites w = (n : ℕ) (s : NodeState) (v : PlanWrite) → node_at w.nodes n ≡ Some s → Has (hold_writes s) v → IsWriter w n s v.lock
