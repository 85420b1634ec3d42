-- The catalogue that the blocks of a volume tell.
use Rattle.std.specs.Prelude.{◌*◌, ◌-◌, ◌/◌, ◌==◌, ◌&&◌, ◌||◌, not, ℕ, Bool, true, List, [], ◌∷◌, None, slice_set, Result, Ok, Err, length, map, take, replicate, if◌then◌else◌}
use Rattle.std.specs.List.{range_with_len, count_by, sum_by}
use Rattle.base_words.specs.Fields.{Block}
use Rattle.fx_header.specs.declared.slot.Hdr.{Hdr}
use Rattle.fx_header.specs.declared.slot.Slot.{Slot as Head}
use Rattle.fx_header.specs.declared.slot.Slot.TheVariants as head
use Rattle.fx_header.specs.declared.slot.HeaderFault.{HeaderFault}
use Rattle.fx_dir.specs.declared.RawEnt.{RawEnt}
use Rattle.fx_dir.specs.declared.DirFault.{DirFault}
use Rattle.fx_dir.specs.Directory.{directory}
use Rattle.fx_quota.specs.declared.types.Row.{Row}
use Rattle.plain_cat.specs.declared.entries.DirEnt.{DirEnt}
use Rattle.plain_cat.specs.declared.cat.Cat.{Cat}
use Rattle.plain_cat.specs.declared.cat.File.{File}
use Rattle.plain_cat.specs.declared.cat.Slot.{Slot}
use Rattle.plain_cat.specs.declared.cat.Slot.TheVariants.{Used, Free}
use Rattle.plain_cat.specs.declared.cat.QuotaRow.{QuotaRow}
use Rattle.plain_rules.specs.Lookups.{clusters_in}
use Rattle.plain_rules.specs.Changes.{with_row}
use Rattle.vol_parts.specs.Volumes.{Volume, factor, total, numbers, first_head, body, is_in_files, is_in_slots, is_free_cluster, is_used_number, active_rows}

-- an entry without the version limit and the flags of its record
abbrev pub plain_entry : RawEnt → DirEnt
plain_entry e = record { name = e.name; ver = e.ver; fid = record { num = e.num; seq = e.seq } }

abbrev pub plain_entries : Result (List RawEnt) DirFault → List DirEnt
plain_entries (Ok es) = map plain_entry es
plain_entries (Err fault) = []

-- the files that hold the volume's own structures have no contents: what stands there is told by the slots, the bits and
-- the quota rows
abbrev pub is_structure : ℕ → Bool
is_structure n = (n == 1) || ((n == 2) || (n == 10))

-- the blocks of a file that can be seen: those below its mark, or all where there is none
abbrev pub written_blocks : ℕ → Hdr → List Block → List Block
written_blocks n f blocks =
    if f.dir || is_structure n then [] else if f.mark == 0 then blocks else take (f.mark - 1) blocks

-- the blocks tell nothing of a file: it is no directory, and holds the volume's own structures or has nothing below its mark
abbrev pub is_bare : ℕ → Hdr → Bool
is_bare n f = not f.dir && (is_structure n || (f.mark == 1))

abbrev pub entries_in : Hdr → List Block → List DirEnt
entries_in f blocks = if f.dir then plain_entries (directory blocks) else []

-- a file, by its header and its blocks
abbrev pub file_of : ℕ → ℕ → Hdr → List Block → File
file_of factor n f blocks = record {
  seq = f.seq;
  owner = record { 0 = f.owner };
  dir = f.dir;
  clusters = f.blocks / factor;
  mark = f.mark;
  end = f.end;
  byte = f.byte;
  marked = f.marked;
  written = written_blocks n f blocks;
  entries = entries_in f blocks;
}

abbrev pub slot_with : ℕ → ℕ → Result Head HeaderFault → List Block → Slot
slot_with factor n (Ok (head.Used f)) blocks = Used (file_of factor n f blocks)
slot_with factor n (Ok (head.Free seq)) blocks = Free seq
slot_with factor n (Err fault) blocks = Free 0

-- what a file number has
unfoldable pub slot_of : Volume → ℕ → Slot
slot_of v n = slot_with (factor v) n (first_head v n) (body v n)

-- all files
unfoldable pub files_of : Volume → List Slot
files_of v = map (slot_of v) (numbers v)

abbrev pub quota_row : Row → QuotaRow
quota_row r = record { owner = record { 0 = r.uic }; usage = r.usage; quota = r.quota; over = r.over }

-- rows in order of owner
abbrev pub rows_sorted : List Row → List QuotaRow
rows_sorted [] = []
rows_sorted (r ∷ rs) = with_row (quota_row r) (rows_sorted rs)

-- a cluster is outside: not free, and in no file
unfoldable pub is_outside_cluster : Volume → ℕ → Bool
is_outside_cluster v q = not (is_free_cluster v q) && not (is_in_files v q)

-- a file number is outside: in use by its bit, and no file's
unfoldable pub is_outside_number : Volume → ℕ → Bool
is_outside_number v n = is_used_number v n && not (is_in_slots v n)

-- flags, number n at n - 1, with those of these numbers set
abbrev pub flagged : List ℕ → List Bool → List Bool
flagged [] flags = flags
flagged (n ∷ ns) flags = flagged ns (slice_set flags (n - 1) true)

-- The catalogue: nothing is open, and what is outside is leaked.
unfoldable pub catalogue : Volume → Cat
catalogue v = record {
  factor = factor v;
  total = total v;
  reserved = sum_by clusters_in (take 11 (files_of v));
  rows = 16 * length (body v 10);
  files = files_of v;
  quota = rows_sorted (active_rows v);
  opens = replicate 64 None;
  leaked = count_by (is_outside_cluster v) (range_with_len 0 (total v));
  leaked_numbers = map (is_outside_number v) (numbers v);
}
