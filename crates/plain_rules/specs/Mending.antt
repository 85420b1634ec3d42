-- Mending: what is left of a catalogue once nobody uses the volume and its faults are put right.
use Rattle.std.specs.Prelude.{◌==◌, ◌&&◌, ◌||◌, ◌-◌, ◌+◌, ◌/◌, ◌%◌, not, nat_le, ℕ, Bool, true, false, List, [], ◌∷◌, ◌++◌, Option, Some, None, codes, filter, map, length, is_none, option_map, option_and_then, slice_get, unwrap_or, if◌then◌else◌}
use Rattle.std.specs.List.{list_any, count_by}
use Rattle.std.specs.Str.{bytes_eq}
use Rattle.plain_cat.specs.declared.ids.Fid.{Fid}
use Rattle.plain_cat.specs.declared.entries.DirEnt.{DirEnt}
use Rattle.plain_cat.specs.declared.history.Mended.{Mended}
use Rattle.plain_cat.specs.declared.cat.Cat.{Cat}
use Rattle.plain_cat.specs.declared.cat.File.{File}
use Rattle.plain_cat.specs.declared.cat.Slot.{Slot}
use Rattle.plain_cat.specs.declared.cat.Slot.TheVariants.{Used, Free}
use Rattle.plain_cat.specs.declared.cat.QuotaRow.{QuotaRow}
use Rattle.plain_rules.specs.declared.places.Place.{Place}
use Rattle.plain_rules.specs.Lookups.{file_at, live, versions, highest}
use Rattle.plain_rules.specs.Directories.{inserted, fits, entry, is_nil}
use Rattle.plain_rules.specs.Changes.{with_entries}
use Rattle.plain_rules.specs.Accounts.{charge}

-- the entries of a slot's directory
abbrev pub entries_in : Slot → List DirEnt
entries_in (Free seq) = []
entries_in (Used f) = if f.dir then f.entries else []

-- the entries of these slots, the first of which has the number n: by directory number, name and falling version
abbrev pub places_from : ℕ → List Slot → List Place
places_from n [] = []
places_from n (s ∷ ss) = map (λ e. record { dir = n; entry = e }) (entries_in s) ++ places_from (n + 1) ss

abbrev pub places : Cat → List Place
places c = places_from 1 c.files

unfoldable pub same_fid : Fid → Fid → Bool
same_fid a b = (a.num == b.num) && (a.seq == b.seq)

-- a directory, a name and a version tell one entry
unfoldable pub same_place : Place → Place → Bool
same_place p q = (p.dir == q.dir) && (bytes_eq p.entry.name q.entry.name && (p.entry.ver == q.entry.ver))

-- the names of the system files, by number from 1
unfoldable pub system_names : List (List ℕ)
system_names =
    codes "INDEXF.SYS" ∷ codes "BITMAP.SYS" ∷ codes "BADBLK.SYS" ∷ codes "000000.DIR" ∷ codes "CORIMG.SYS" ∷ codes "VOLSET.SYS"
    ∷ codes "CONTIN.SYS" ∷ codes "BACKUP.SYS" ∷ codes "BADLOG.SYS" ∷ codes "QUOTA.SYS" ∷ codes "SYSLOST.DIR" ∷ []

abbrev pub is_name_of : List ℕ → Option (List ℕ) → Bool
is_name_of name None = false
is_name_of name (Some own) = bytes_eq name own

-- a system file keeps the entry of its own name, version 1, in the master file directory, which is file 4
unfoldable pub is_own : Place → Bool
is_own p = (p.dir == 4) && ((p.entry.ver == 1) && is_name_of p.entry.name (slice_get system_names (p.entry.fid.num - 1)))

-- another file keeps its first entry
abbrev pub is_first : Place → List Place → Bool
is_first p [] = false
is_first p (q ∷ qs) = if same_fid q.entry.fid p.entry.fid then same_place q p else is_first p qs

-- whether an entry stays: it names a live file, which keeps it
unfoldable pub stays : Cat → Place → Bool
stays c p = not (is_none (live c p.entry.fid)) && (if nat_le p.entry.fid.num 11 then is_own p else is_first p (places c))

abbrev pub less_entries : Cat → ℕ → Slot → Slot
less_entries c n (Free seq) = Free seq
less_entries c n (Used f) = Used (record f { entries = filter (λ e. stays c (record { dir = n; entry = e })) f.entries })

abbrev pub each_from : (ℕ → Slot → Slot) → ℕ → List Slot → List Slot
each_from change n [] = []
each_from change n (s ∷ ss) = change n s ∷ each_from change (n + 1) ss

-- no channel has a file open
abbrev pub without_opens : Cat → Cat
without_opens c = record c { opens = map (λ o. None) c.opens }

-- step 1: the entries that stay
abbrev pub without_entries : Cat → Cat
without_entries c = record c { files = each_from (less_entries c) 1 c.files }

-- the catalogue after step 1: no channel has a file open, and the entries that do not stay are gone
abbrev pub stripped : Cat → Cat
stripped c = without_entries (without_opens c)

-- a file that nothing was written to, or a directory without entries
abbrev pub is_empty : File → Bool
is_empty f = (f.mark == 1) || (f.dir && is_nil f.entries)

-- whether an entry names this file
abbrev pub is_named : Cat → Fid → Bool
is_named c fid = list_any (λ p. same_fid p.entry.fid fid) (places c)

-- a file that is not marked and stands in no directory
abbrev pub is_lost : Cat → ℕ → File → Bool
is_lost c n f = not f.marked && not (is_named c (record { num = n; seq = f.seq }))

-- and is empty or is not
abbrev pub is_lost_slot : Cat → Bool → ℕ → Slot → Bool
is_lost_slot c empty n (Free seq) = false
is_lost_slot c empty n (Used f) = is_lost c n f && (if empty then is_empty f else not (is_empty f))

-- the numbers of the slots that pass, rising
abbrev pub numbers_from : (ℕ → Slot → Bool) → ℕ → List Slot → List ℕ
numbers_from passes n [] = []
numbers_from passes n (s ∷ ss) = if passes n s then n ∷ numbers_from passes (n + 1) ss else numbers_from passes (n + 1) ss

-- the numbers of the lost files that are empty, or of those that are not
abbrev pub lost : Cat → Bool → List ℕ
lost c empty = numbers_from (is_lost_slot c empty) 1 c.files

abbrev pub digit : ℕ → ℕ → ℕ
digit n unit = 48 + n / unit % 10

-- Fnnnnn.LST
unfoldable pub lost_name : ℕ → List ℕ
lost_name n =
    70 ∷ digit n 10000 ∷ digit n 1000 ∷ digit n 100 ∷ digit n 10 ∷ digit n 1 ∷ 46 ∷ 76 ∷ 83 ∷ 84 ∷ []

-- the entry of a lost file among these of [SYSLOST], with one more than the highest version of its name there
abbrev pub lost_entry : List DirEnt → ℕ → ℕ → DirEnt
lost_entry es n seq = entry (lost_name n) (highest (versions (lost_name n) es) + 1) (record { num = n; seq = seq })

abbrev pub if_room : ℕ → List DirEnt → DirEnt → Option (List DirEnt)
if_room factor es e = if nat_le e.ver 32767 && fits factor (inserted e es) then Some (inserted e es) else None

-- the entries of [SYSLOST], which has one cluster, with that of a lost file, or none where there is no room
unfoldable pub with_lost_entry : ℕ → List DirEnt → ℕ → ℕ → Option (List DirEnt)
with_lost_entry factor es n seq = if_room factor es (lost_entry es n seq)

-- the file entered in [SYSLOST], which is file 11, or none where there is no room
unfoldable pub enter : Cat → ℕ → Option Cat
enter c n =
    option_and_then (λ (d : File). option_and_then (λ (f : File).
    option_map (with_entries c 11 d) (with_lost_entry c.factor d.entries n f.seq)) (file_at c n)) (file_at c 11)

abbrev pub enter_all : List ℕ → Cat → Option Cat
enter_all [] c = Some c
enter_all (n ∷ ns) c = option_and_then (enter_all ns) (enter c n)

-- those that there is room for
abbrev pub enter_some : List ℕ → Cat → Cat
enter_some [] c = c
enter_some (n ∷ ns) c = enter_some ns (unwrap_or (enter c n) c)

-- step 2: first the lost files that are not empty, then the empty ones, both by rising number; none where one that is not
-- empty has no room
abbrev pub with_lost : Cat → Option Cat
with_lost c = option_map (enter_some (lost c true)) (enter_all (lost c false) c)

-- step 3: files that are marked, and those that are still in no directory, are gone
abbrev pub is_gone : Cat → ℕ → File → Bool
is_gone c n f = f.marked || not (is_named c (record { num = n; seq = f.seq }))

abbrev pub gone_slot : Cat → ℕ → Slot → Slot
gone_slot c n (Free seq) = Free seq
gone_slot c n (Used f) = if is_gone c n f then Free f.seq else Used f

abbrev pub without_gone : Cat → Cat
without_gone c = record c { files = each_from (gone_slot c) 1 c.files }

-- step 4: nothing is leaked
abbrev pub without_leaks : Cat → Cat
without_leaks c = record c { leaked = 0; leaked_numbers = map (λ b. false) c.leaked_numbers }

-- step 5: the usage of each owner is what its files cost
abbrev pub summed_row : Cat → QuotaRow → QuotaRow
summed_row c r = record r { usage = charge c r.owner }

abbrev pub with_sums : Cat → Cat
with_sums c = record c { quota = map (summed_row c) c.quota }

abbrev pub is_used : Slot → Bool
is_used (Free seq) = false
is_used (Used f) = true

abbrev pub is_true : Bool → Bool
is_true b = b

-- what was done from c on, by a without the entries that went, b with the lost ones entered, and the last d
abbrev pub counts : Cat → Cat → Cat → Cat → Mended
counts c a b d = record {
  entered = length (places b) - length (places a);
  removed = length (places c) - length (places a);
  gone = count_by is_used c.files - count_by is_used d.files;
  clusters = c.leaked;
  numbers = count_by is_true c.leaked_numbers;
}

abbrev pub put_right : Cat → Cat
put_right c = with_sums (without_leaks (without_gone c))

abbrev pub mended_from : Cat → Cat → Option Cat → Option (Cat × Mended)
mended_from c a None = None
mended_from c a (Some b) = Some (put_right b, counts c a b (put_right b))

-- The catalogue after mending, and what was done. There is none where a lost file that is not empty has no room in
-- [SYSLOST].
unfoldable pub mended : Cat → Option (Cat × Mended)
mended c = let a = without_entries (without_opens c) in mended_from c a (with_lost a)
