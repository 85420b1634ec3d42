-- By how much the sequences of a value block are raised where a command gives back a lock under which it has written.
use Rattle.std.specs.Prelude.{◌==◌, ◌&&◌, not, ℕ, Bool, true, false, List, Result, Ok, Err, if◌then◌else◌}
use Rattle.std.specs.List.{list_any}
use Rattle.fx_header.specs.declared.slot.Slot.{Slot}
use Rattle.fx_header.specs.declared.slot.Slot.TheVariants as head
use Rattle.fx_header.specs.declared.slot.HeaderFault.{HeaderFault}
use Rattle.fx_header.specs.Headers.{header_read}
use Rattle.lock_db.specs.Names.{is_same}
use Rattle.lock_db.specs.declared.name.LockName.{LockName}
use Rattle.lock_db.specs.declared.name.LockName.TheVariants.{S, A, Q, X, V}
use Rattle.vol_parts.specs.declared.geometry.Geometry.{Geometry}
use Rattle.vol_spell.specs.Reading.{header_place}
use Rattle.node_locks.specs.declared.sequences.Raise.{Raise}
use Rattle.op_law.specs.declared.need.PlanWrite.{PlanWrite}

-- The block is of the first part of what a lock guards: of a file its header, of the bitmaps the index-file bitmap, and of the
-- quota file all.
abbrev pub is_first_part : Geometry → LockName → ℕ → Bool
is_first_part g (S n) lbn = lbn == header_place g n
is_first_part g (A n) lbn = false
is_first_part g Q lbn = true
is_first_part g X lbn = false
is_first_part g V lbn = lbn == header_place g 0

-- a write under this lock
abbrev pub is_under : LockName → PlanWrite → Bool
is_under name w = is_same w.lock name

abbrev pub writes_first : Geometry → LockName → PlanWrite → Bool
writes_first g name w = is_under name w && is_first_part g name w.lbn

abbrev pub writes_second : Geometry → LockName → PlanWrite → Bool
writes_second g name w = is_under name w && not (is_first_part g name w.lbn)

-- a header that tells a free slot
abbrev pub is_free_head : Result Slot HeaderFault → Bool
is_free_head (Ok (head.Free seq)) = true
is_free_head (Ok (head.Used h)) = false
is_free_head (Err fault) = false

-- a write under a file's lock that leaves its header slot free
abbrev pub frees : Geometry → LockName → PlanWrite → Bool
frees g (S n) w = writes_first g (S n) w && is_free_head (header_read w.block)
frees g other w = false

-- two where a slot was freed, else one where the part was written
abbrev pub raise_by : Bool → Bool → ℕ
raise_by freed wrote = if freed then 2 else if wrote then 1 else 0

-- by how much these writes raise the two sequences of a lock
abbrev pub raise_of : Geometry → LockName → List PlanWrite → Raise
raise_of g name ws = record {
  first = raise_by (list_any (frees g name) ws) (list_any (writes_first g name) ws);
  second = raise_by (list_any (frees g name) ws) (list_any (writes_second g name) ws);
}
