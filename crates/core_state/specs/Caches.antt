-- The blocks that a node keeps in its cache: which of them are current by the value blocks, and what a look, a write and an answer make
-- of them.
use Rattle.std.specs.Prelude.{ℕ, Bool, true, false, List, Option, Some, None, if◌then◌else◌}
use Rattle.std.specs.List.{list_any}
use Rattle.base_words.specs.Fields.{Block}
use Rattle.lock_db.specs.declared.name.LockName.{LockName}
use Rattle.lock_db.specs.declared.resource.Resource.{Resource}
use Rattle.lock_db.specs.Queues.{mode_of}
use Rattle.lock_db.specs.Tables.{resource_at}
use Rattle.plain_cat.specs.declared.mode.Mode.TheVariants.{NL}
use Rattle.vol_parts.specs.declared.geometry.Geometry.{Geometry}
use Rattle.node_locks.specs.Held.{Row, system_of}
use Rattle.node_locks.specs.PuttingBack.{Keeps, Values, all_back, kept_of}
use Rattle.node_locks.specs.Sequences.{raised, first_sequence, second_sequence, raised_block}
use Rattle.node_cache.specs.Cached.{Cached, cached, is_under, is_since, found, kept, replaced}
use Rattle.op_law.specs.declared.need.PlanWrite.{PlanWrite}
use Rattle.core_space.specs.Rule.{is_writer}
use Rattle.core_state.specs.Raises.{is_first_part, raise_of}

-- ---- which entries are current

-- the sequence of the part to which a block belongs, in the value block of the lock that guards it
abbrev pub part_sequence : Geometry → LockName → ℕ → Resource → ℕ
part_sequence g name lbn r = if is_first_part g name lbn then first_sequence r.value else second_sequence r.value

abbrev pub sequence_now : Geometry → List Resource → LockName → ℕ → ℕ
sequence_now g t name lbn = part_sequence g name lbn (resource_at name t)

-- one higher, up to the last value of 64 bits
abbrev pub next_sequence : ℕ → ℕ
next_sequence seq = raised true 1 seq

-- the entry of a block under a lock that is current: the value block is valid, and the sequence of its part is the entry's
abbrev pub current_entry : Geometry → List Resource → LockName → ℕ → List Cached → Option Cached
current_entry g t name lbn es = if (resource_at name t).valid then found lbn name (sequence_now g t name lbn) es else None

-- ---- what a look keeps

-- the file system of node n holds a lock in PW
abbrev pub writes_at : ℕ → Resource → Bool
writes_at n r = is_writer (mode_of (system_of n) r.askers)

-- With which sequence a block is kept: with that of its part, where the value block is valid; else with one more by who holds the lock
-- in PW, as its lowering will raise the part, and by others not at all.
abbrev pub kept_sequence : Bool → Bool → ℕ → Option ℕ
kept_sequence true writes seq = Some seq
kept_sequence false true seq = Some (next_sequence seq)
kept_sequence false false seq = None

abbrev pub kept_with : Option ℕ → ℕ → LockName → Block → List Cached → List Cached
kept_with None lbn name b es = es
kept_with (Some seq) lbn name b es = kept (cached lbn name seq b) es

-- the cache of node n after it has read a block from the drive, under a lock
abbrev pub kept_by_look : Geometry → List Resource → ℕ → LockName → ℕ → Block → List Cached → List Cached
kept_by_look g t n name lbn b es = kept_with (kept_sequence (resource_at name t).valid (writes_at n (resource_at name t)) (sequence_now g t name lbn)) lbn name b es

-- ---- what a write makes anew

-- the sequence with which a holder in PW keeps a block now
abbrev pub least_sequence : Bool → ℕ → ℕ
least_sequence true seq = seq
least_sequence false seq = next_sequence seq

-- A write makes the entry of its block under its lock anew, with one sequence more than that of the part. So it is with an entry that was
-- kept or made anew since the lock is held, or current before; an older one stays as it is, and is not current.
abbrev pub rewritten : Geometry → List Resource → PlanWrite → List Cached → List Cached
rewritten g t w es =
    if list_any (is_since w.lbn w.lock (least_sequence (resource_at w.lock t).valid (sequence_now g t w.lock w.lbn))) es
    then replaced (cached w.lbn w.lock (next_sequence (sequence_now g t w.lock w.lbn)) w.block) es else es

-- ---- what an answer keeps

-- a cached block is under this lock
abbrev pub has_entry : List Cached → LockName → Bool
has_entry es name = list_any (is_under name) es

-- a lock of a command is lowered to NL at the answer, where a cached block is under it, and else it goes back
abbrev pub keeps : List Cached → Keeps
keeps es l = if has_entry es l.0 then Some NL else None

-- with its value block raised by the writes under it
abbrev pub raised_values : Geometry → List PlanWrite → Values
raised_values g ws l t = raised_block l.0 (raise_of g l.0 ws) (resource_at l.0 t)

-- the locks after those of a row are put back, in order, and what is kept of them
abbrev pub put_back_all : Geometry → ℕ → List PlanWrite → List Cached → Row → List Resource → List Resource
put_back_all g n ws es ls t = all_back n (keeps es) (raised_values g ws) ls t

abbrev pub lowered_of : List Cached → Row → Row
lowered_of es ls = kept_of (keeps es) ls
