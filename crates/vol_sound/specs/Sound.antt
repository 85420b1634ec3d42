-- Which files of a damaged volume are sound, and what a repair keeps: the system files, and each sound file with all of its header
-- slots.
use Rattle.std.specs.Prelude.{◌==◌, ◌&&◌, ◌||◌, not, nat_le, nat_lt, ℕ, Bool, true, false, Option, Some, None, is_none, Result, Ok, Err, if◌then◌else◌}
use Rattle.std.specs.List.{range_with_len, list_any, list_all, count_by, sum_by}
use Rattle.fx_header.specs.declared.slot.Hdr.{Hdr}
use Rattle.fx_header.specs.declared.slot.Slot.{Slot}
use Rattle.fx_header.specs.declared.slot.Slot.TheVariants.{Free, Used}
use Rattle.fx_header.specs.declared.slot.HeaderFault.{HeaderFault}
use Rattle.vol_parts.specs.Volumes.{Volume, total, numbers, head, fields, is_slot_of, is_in_file}
use Rattle.vol_parts.specs.Fatal.{chain_fault, dir_fault}
use Rattle.vol_faults.specs.Conditions.{has_run_off}
use Rattle.vol_faults.specs.Counts.{times_in}

-- ---- cuts

abbrev pub has_number : ℕ → Option Hdr → Bool
has_number n None = false
has_number n (Some f) = f.num == n

-- The file of a number has a cut, which is the runs that are told of it: the first header of a file is in its slot, with this number,
-- and its chain of headers neither ends too early nor is badly split. The chains of the files 1 to 11 are tested with these files: they
-- have one header, and that of the index file may list more clusters than the header of another file.
unfoldable pub has_cut : Volume → ℕ → Bool
has_cut v n = has_number n (fields v n) && (nat_le n 11 || is_none (chain_fault v n))

-- in how many runs of the cut of a file a cluster has a block
unfoldable pub times_in_cut : Volume → ℕ → ℕ → ℕ
times_in_cut v q n = if has_cut v n then times_in v q n else 0

-- and in how many runs of all cuts
unfoldable pub times_cut : Volume → ℕ → ℕ
times_cut v q = sum_by (times_in_cut v q) (numbers v)

-- ---- sound files

-- a cluster is not in this file, or is in one run of one cut alone
unfoldable pub is_unshared : Volume → ℕ → ℕ → Bool
is_unshared v n q = not (is_in_file v q n) || (times_cut v q == 1)

-- no cluster of the file is in two runs of cuts, be they the file's own or another file's
unfoldable pub shares_none : Volume → ℕ → Bool
shares_none v n = list_all (is_unshared v n) (range_with_len 0 (total v))

-- A file above number 11 is sound: it has a cut, of whole clusters of the volume, which it shares with no other file; and if it is a
-- directory, it can be read. (So it has at most 1,232 clusters, since its chain is well split.)
unfoldable pub is_sound : Volume → ℕ → Bool
is_sound v n = nat_lt 11 n && (has_cut v n && (not (has_run_off v n) && (is_none (dir_fault v n) && shares_none v n)))

-- ---- what is kept

-- the number of a header slot of a sound file
unfoldable pub is_sound_slot : Volume → ℕ → ℕ → Bool
is_sound_slot v m n = is_sound v n && is_slot_of v m n

-- a header slot is kept: that of a system file, or one of a sound file
unfoldable pub is_kept : Volume → ℕ → Bool
is_kept v m = nat_le m 11 || list_any (is_sound_slot v m) (numbers v)

abbrev pub is_free_slot : Result Slot HeaderFault → Bool
is_free_slot (Ok (Free seq)) = true
is_free_slot (Ok (Used f)) = false
is_free_slot (Err fault) = false

-- a header slot is freed: it is not kept, and is used or has a fault
unfoldable pub is_freed : Volume → ℕ → Bool
is_freed v m = not (is_kept v m) && not (is_free_slot (head v m))

-- how many header slots are freed
unfoldable pub freed_slots : Volume → ℕ
freed_slots v = count_by (is_freed v) (numbers v)
