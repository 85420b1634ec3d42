-- The catalogues that a repair comes to, from the blocks of a damaged volume in which nothing is beyond repair: the one that it begins
-- with, of what is kept, and the one that mending then gets.
use Rattle.std.specs.Prelude.{◌+◌, ◌*◌, ◌-◌, ◌==◌, ◌&&◌, ◌||◌, not, nat_le, nat_lt, ℕ, Bool, false, List, [], ◌∷◌, Option, Some, None, length, map, filter, take, replicate, if◌then◌else◌}
use Rattle.std.specs.List.{range_with_len, list_all, list_any, count_by, sum_by}
use Rattle.fx_quota.specs.declared.types.Row.{Row}
use Rattle.plain_cat.specs.declared.entries.DirEnt.{DirEnt}
use Rattle.plain_cat.specs.declared.cat.Cat.{Cat}
use Rattle.plain_cat.specs.declared.cat.File.{File}
use Rattle.plain_cat.specs.declared.cat.Slot.{Slot}
use Rattle.plain_cat.specs.declared.cat.Slot.TheVariants.{Used, Free}
use Rattle.plain_rules.specs.Lookups.{in_use, clusters_in}
use Rattle.plain_rules.specs.SystemFiles.{is_system_entry, entries_of}
use Rattle.vol_parts.specs.Volumes.{Volume, factor, total, numbers, body, is_in_file, is_free_cluster, is_used_number, active_rows}
use Rattle.vol_parts.specs.Catalogues.{plain_entry, slot_of, rows_sorted, catalogue}
use Rattle.vol_init.specs.Layouts.{system_owner, main_entries}
use Rattle.vol_sound.specs.Sound.{is_sound, is_kept}
use Rattle.vol_sound.specs.Freeing.{seq_at}
use Rattle.vol_sound.specs.Leading.{leads_back}

-- ---- files

-- a file is kept: a system file, or a sound one
unfoldable pub is_kept_file : Volume → ℕ → Bool
is_kept_file v n = nat_le n 11 || is_sound v n

-- the master file directory has an entry of system file n
unfoldable pub has_own_entry : Volume → ℕ → Bool
has_own_entry v n = list_any (is_system_entry n) (entries_of (catalogue v) 4)

-- the master file directory lacks an entry of a system file; so it does where it cannot be read
unfoldable pub lacks_entry : Volume → Bool
lacks_entry v = not (list_all (has_own_entry v) (range_with_len 1 11))

-- a slot with other entries, where it has a file
abbrev pub with_listed : List DirEnt → Slot → Slot
with_listed es (Used f) = Used (record f { entries = es })
with_listed es (Free seq) = Free seq

-- a directory that is marked for delete has no entries
abbrev pub emptied : Slot → Slot
emptied (Used f) = if f.marked then Used (record f { entries = [] }) else Used f
emptied (Free seq) = Free seq

-- what the number of a file that is kept has
abbrev pub kept_slot : Volume → ℕ → Slot
kept_slot v n = if (n == 4) && lacks_entry v then with_listed (map plain_entry main_entries) (slot_of v n) else emptied (slot_of v n)

-- what a number has: a file that is kept, or a free slot, with the sequence that stands there
unfoldable pub begun_slot : Volume → ℕ → Slot
begun_slot v n = if is_kept_file v n then kept_slot v n else Free (seq_at v n)

unfoldable pub begun_files : Volume → List Slot
begun_files v = map (begun_slot v) (numbers v)

-- ---- quota rows

-- of the rows of each owner the first
abbrev pub first_rows : List Row → List Row
first_rows [] = []
first_rows (r ∷ rs) = r ∷ filter (λ x. not (x.uic == r.uic)) (first_rows rs)

-- [1,1] may use as much as there is
abbrev pub system_row : Row
system_row = record { uic = system_owner; usage = 0; quota = 4294967295; over = 0 }

-- These rows, of `most` at the most, and one of [1,1], where there is none: in place of the last, where there is no room for one more.
abbrev pub with_system_row : ℕ → List Row → List Row
with_system_row most rs =
    if list_any (λ r. r.uic == system_owner) rs then rs else system_row ∷ (if nat_lt (length rs) most then rs else take (most - 1) rs)

-- the rows that there are room for
abbrev pub most_rows : Volume → ℕ
most_rows v = 16 * length (body v 10)

unfoldable pub begun_rows : Volume → List Row
begun_rows v = with_system_row (most_rows v) (first_rows (active_rows v))

-- ---- clusters and numbers

unfoldable pub is_in_kept_file : Volume → ℕ → ℕ → Bool
is_in_kept_file v q n = is_kept_file v n && is_in_file v q n

-- a cluster is in a file that is kept
unfoldable pub is_in_kept : Volume → ℕ → Bool
is_in_kept v q = list_any (is_in_kept_file v q) (numbers v)

-- a cluster that is not free by its bit, and in no file that is kept
unfoldable pub is_leaked : Volume → ℕ → Bool
is_leaked v q = not (is_free_cluster v q) && not (is_in_kept v q)

-- a number that is in use by its bit, and of no slot that is kept
unfoldable pub is_leaked_number : Volume → ℕ → Bool
is_leaked_number v n = is_used_number v n && not (is_kept v n)

-- ---- the catalogues

-- The catalogue that a repair begins with: the files that are kept, the master file directory with its entries, no entries in a
-- directory that is marked for delete, a row for each owner who has one, and for [1,1]. What is in no file that is kept is leaked,
-- unless it is free.
unfoldable pub begun : Volume → Cat
begun v = record {
  factor = factor v;
  total = total v;
  reserved = sum_by clusters_in (take 11 (begun_files v));
  rows = most_rows v;
  files = begun_files v;
  quota = rows_sorted (begun_rows v);
  opens = replicate 64 None;
  leaked = count_by (is_leaked v) (range_with_len 0 (total v));
  leaked_numbers = map (is_leaked_number v) (numbers v);
}

-- each file with other entries, by its number, from n on
abbrev pub each_listed : (ℕ → List DirEnt → List DirEnt) → ℕ → List Slot → List Slot
each_listed change n [] = []
each_listed change n (Used f ∷ ss) = Used (record f { entries = change n f.entries }) ∷ each_listed change (n + 1) ss
each_listed change n (Free seq ∷ ss) = Free seq ∷ each_listed change (n + 1) ss

abbrev pub with_each : (ℕ → List DirEnt → List DirEnt) → Cat → Cat
with_each change c = record c { files = each_listed change 1 c.files }

-- an entry names the master file directory
abbrev pub names_main : DirEnt → Bool
names_main e = (e.fid.num == 4) && (e.fid.seq == 4)

-- the master file directory names itself by its own entry alone
abbrev pub main_without : ℕ → List DirEnt → List DirEnt
main_without n es = if n == 4 then filter (λ e. not (names_main e) || is_system_entry 4 e) es else es

unfoldable pub without_own : Cat → Cat
without_own c = with_each main_without c

abbrev pub is_dir_in : Option File → Bool
is_dir_in None = false
is_dir_in (Some f) = f.dir

-- an entry names a directory in use
abbrev pub names_dir : Cat → DirEnt → Bool
names_dir c e = is_dir_in (in_use c e.fid)

-- each directory but the master file directory that leads back to itself loses its entries of directories
abbrev pub loop_without : Cat → ℕ → List DirEnt → List DirEnt
loop_without c n es = if not (n == 4) && leads_back c n then filter (λ e. not (names_dir c e)) es else es

unfoldable pub without_loops : Cat → Cat
without_loops c = with_each (loop_without c) c

-- an owner has a row
abbrev pub has_row : Cat → ℕ → Bool
has_row c uic = list_any (λ r. r.owner.0 == uic) c.quota

-- a file whose owner has no row is [1,1]'s
abbrev pub owned : Cat → Slot → Slot
owned c (Used f) = if has_row c f.owner.0 then Used f else Used (record f { owner = record { 0 = system_owner } })
owned c (Free seq) = Free seq

unfoldable pub with_owners : Cat → Cat
with_owners c = record c { files = map (owned c) c.files }

-- The catalogue that mending gets.
unfoldable pub patched : Volume → Cat
patched v = with_owners (without_loops (without_own (begun v)))
