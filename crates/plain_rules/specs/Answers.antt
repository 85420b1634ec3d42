-- What each command answers, and the catalogue after it. Refusals are tried in their order, and a refused command
-- changes nothing.
use Rattle.std.specs.Prelude.{◌≡◌, ◌==◌, ◌&&◌, ◌||◌, ◌-◌, ◌+◌, ◌*◌, not, nat_lt, nat_le, min, ℕ, Bool, true, false, List, [], ◌∷◌, ◌++◌, Option, Some, None, is_none, is_some, map, length, if◌then◌else◌}
use Rattle.std.specs.List.{list_any}
use Rattle.plain_cat.specs.Modes.{compatible_modes}
use Rattle.plain_cat.specs.declared.ids.Fid.{Fid}
use Rattle.plain_cat.specs.declared.ids.Uic.{Uic}
use Rattle.plain_cat.specs.declared.mode.Mode.{Mode}
use Rattle.plain_cat.specs.declared.mode.Mode.TheVariants.{NL, CR, CW, PR, PW, EX}
use Rattle.plain_cat.specs.declared.entries.DirEnt.{DirEnt}
use Rattle.plain_cat.specs.declared.command.Cmd.{Cmd}
use Rattle.plain_cat.specs.declared.command.Cmd.TheVariants as cmd
use Rattle.plain_cat.specs.declared.reply.Reply.{Reply}
use Rattle.plain_cat.specs.declared.reply.Reply.TheVariants as reply
use Rattle.plain_cat.specs.declared.reply.Refusal.{Refusal}
use Rattle.plain_cat.specs.declared.reply.Refusal.TheVariants as refusal
use Rattle.plain_cat.specs.declared.cat.Cat.{Cat}
use Rattle.plain_cat.specs.declared.cat.File.{File}
use Rattle.plain_cat.specs.declared.cat.Open.{Open}
use Rattle.plain_cat.specs.declared.cat.QuotaRow.{QuotaRow}
use Rattle.plain_rules.specs.declared.outcome.Outcome.{Outcome}
use Rattle.plain_rules.specs.Lookups.{file_at, in_use, live, versions, entry_of, found, channel_at, is_open, row_of, free_clusters, header_most, file_most, needs_header, is_free_number, has_free_number}
use Rattle.plain_rules.specs.Directories.{inserted, without, is_nil, fits, entry, nowhere, new_version, is_last_version, is_taken}
use Rattle.plain_rules.specs.Changes.{in_clusters, blocks_of, cost, with_file, freed, with_entries, charged, discharged, new_fid, new_file, new_dir, grown, cut, block_of, written, with_channel, with_row, allowed}

-- a reply that leaves the catalogue
abbrev pub told : Cat → Reply → Outcome
told c r = record { reply = r; after = c }

abbrev pub refused : Cat → Refusal → Outcome
refused c r = told c (reply.Refused r)

-- the first refusal whose test holds
abbrev pub first_refusal : List (Bool × Refusal) → Option Refusal
first_refusal [] = None
first_refusal (check ∷ checks) = if check.0 then Some check.1 else first_refusal checks

-- refused, or else this
abbrev pub unless : Cat → Option Refusal → Outcome → Outcome
unless c None o = o
unless c (Some r) o = refused c r

-- what comes next in a live directory
abbrev pub in_directory_file : Cat → Option File → (File → Outcome) → Outcome
in_directory_file c None next = refused c refusal.NoSuchFile
in_directory_file c (Some d) next = if d.dir then next d else refused c refusal.NotDir

abbrev pub in_directory : Cat → Fid → (File → Outcome) → Outcome
in_directory c dir next = in_directory_file c (live c dir) next

-- LOOKUP
unfoldable pub lookup_outcome : Cat → Fid → List ℕ → ℕ → Outcome
lookup_outcome c dir name ver = in_directory c dir (λ d. told c (found (entry_of (versions name d.entries) ver)))

-- LIST
unfoldable pub list_outcome : Cat → Fid → Outcome
list_outcome c dir = in_directory c dir (λ d. told c (reply.Listed d.entries))

-- STAT
abbrev pub facts : Cat → File → Reply
facts c f = reply.Facts f.dir f.owner (blocks_of c f) f.mark f.end f.byte

abbrev pub stat_of : Cat → Option File → Outcome
stat_of c None = refused c refusal.NoSuchFile
stat_of c (Some f) = told c (facts c f)

unfoldable pub stat_outcome : Cat → Fid → Outcome
stat_outcome c file = stat_of c (live c file)

-- whether the usage and this cost exceed the quota
abbrev pub over_quota : Option QuotaRow → ℕ → Bool
over_quota None k = false
over_quota (Some r) k = nat_lt r.quota (r.usage + k)

-- whether the usage and these blocks exceed the quota and the overdraft
abbrev pub over_draft : Option QuotaRow → ℕ → Bool
over_draft None k = false
over_draft (Some r) k = nat_lt (r.quota + r.over) (r.usage + k)

-- the refusals of a new file for want of room: in the directory, under the quota, among the numbers and the clusters
abbrev pub room_checks : Cat → File → List ℕ → ℕ → Uic → ℕ → Option ℕ → List (Bool × Refusal)
room_checks c d name ver owner clusters new =
    (not (fits c.factor (inserted (entry name ver nowhere) d.entries)), refusal.DirFull)
    ∷ (is_none (row_of owner c.quota), refusal.NoQuota)
    ∷ (over_quota (row_of owner c.quota) (cost c clusters), refusal.ExQuota)
    ∷ (is_none new, refusal.IndexFull)
    ∷ (nat_lt (free_clusters c) clusters, refusal.DeviceFull)
    ∷ []

-- A new file under a number, with its entry in a directory: its owner is charged, and the reply shows the entry.
abbrev pub entered : Cat → ℕ → File → DirEnt → File → Cat
entered c dir d e f = with_entries (with_file (charged c f.owner (cost c f.clusters)) e.fid.num f) dir d (inserted e d.entries)

abbrev pub shown : DirEnt → Reply
shown e = reply.Found e.fid e.name e.ver

abbrev pub made : Cat → ℕ → File → DirEnt → File → Outcome
made c dir d e f = record { reply = shown e; after = entered c dir d e f }

-- CREATE
abbrev pub create_checks : Cat → File → List ℕ → ℕ → ℕ → Uic → Option ℕ → List (Bool × Refusal)
create_checks c d name ver blocks owner new =
    let es = versions name d.entries in
    (is_last_version ver es, refusal.BadVersion)
    ∷ (is_taken (new_version ver es) es, refusal.DupFile)
    ∷ (nat_lt header_most (in_clusters c blocks), refusal.FileLimit)
    ∷ room_checks c d name (new_version ver es) owner (in_clusters c blocks) new

unfoldable pub create_refusal : Cat → File → List ℕ → ℕ → ℕ → Uic → Option ℕ → Option Refusal
create_refusal c d name ver blocks owner new = first_refusal (create_checks c d name ver blocks owner new)

abbrev pub create_made : Cat → ℕ → File → List ℕ → ℕ → ℕ → Uic → Option ℕ → Outcome
create_made c dir d name ver blocks owner None = refused c refusal.IndexFull
create_made c dir d name ver blocks owner (Some n) =
    let fid = new_fid c n in
    made c dir d (entry name (new_version ver (versions name d.entries)) fid) (new_file fid.seq owner (in_clusters c blocks))

unfoldable pub create_outcome : Cat → Fid → List ℕ → ℕ → ℕ → Uic → Option ℕ → Outcome
create_outcome c dir name ver blocks owner new = in_directory c dir (λ d.
    unless c (create_refusal c d name ver blocks owner new) (create_made c dir.num d name ver blocks owner new))

-- MKDIR: the entry's name is NAME.DIR
abbrev pub dir_name : List ℕ → List ℕ
dir_name name = name ++ (46 ∷ 68 ∷ 73 ∷ 82 ∷ [])

abbrev pub mkdir_checks : Cat → File → List ℕ → Uic → Option ℕ → List (Bool × Refusal)
mkdir_checks c d name owner new = (not (is_nil (versions name d.entries)), refusal.DupFile) ∷ room_checks c d name 1 owner 1 new

unfoldable pub mkdir_refusal : Cat → File → List ℕ → Uic → Option ℕ → Option Refusal
mkdir_refusal c d name owner new = first_refusal (mkdir_checks c d name owner new)

abbrev pub mkdir_made : Cat → ℕ → File → List ℕ → Uic → Option ℕ → Outcome
mkdir_made c dir d name owner None = refused c refusal.IndexFull
mkdir_made c dir d name owner (Some n) =
    let fid = new_fid c n in made c dir d (entry name 1 fid) (new_dir fid.seq owner c.factor)

unfoldable pub mkdir_outcome : Cat → Fid → List ℕ → Uic → Option ℕ → Outcome
mkdir_outcome c dir name owner new = in_directory c dir (λ d.
    unless c (mkdir_refusal c d (dir_name name) owner new) (mkdir_made c dir.num d (dir_name name) owner new))

-- system files and directories keep their size, and are not opened
abbrev pub is_kept : ℕ → File → Bool
is_kept n f = nat_le n 11 || f.dir

-- EXTEND, which may take a number for a new header
abbrev pub extend_checks : Cat → ℕ → File → ℕ → Option ℕ → List (Bool × Refusal)
extend_checks c n f k new =
    (is_kept n f, refusal.NoPriv)
    ∷ (nat_lt header_most k || nat_lt file_most (f.clusters + k), refusal.FileLimit)
    ∷ (over_draft (row_of f.owner c.quota) (c.factor * k), refusal.ExQuota)
    ∷ (needs_header f.clusters k && is_none new, refusal.IndexFull)
    ∷ (nat_lt (free_clusters c) k, refusal.DeviceFull)
    ∷ []

unfoldable pub extend_refusal : Cat → ℕ → File → ℕ → Option ℕ → Option Refusal
extend_refusal c n f blocks new = first_refusal (extend_checks c n f (in_clusters c blocks) new)

abbrev pub extended : Cat → ℕ → File → ℕ → Outcome
extended c n f k = record {
  reply = reply.Size (c.factor * (f.clusters + k));
  after = with_file (charged c f.owner (c.factor * k)) n (grown c f k);
}

abbrev pub extend_of : Cat → ℕ → Option File → ℕ → Option ℕ → Outcome
extend_of c n None blocks new = refused c refusal.NoSuchFile
extend_of c n (Some f) blocks new = unless c (extend_refusal c n f blocks new) (extended c n f (in_clusters c blocks))

-- whatever number a new header takes: only whether there is one counts
unfoldable pub extend_outcome : Cat → Fid → ℕ → Option ℕ → Outcome
extend_outcome c file blocks new = extend_of c file.num (live c file) blocks new

-- TRUNC
abbrev pub truncated : Cat → ℕ → File → ℕ → Outcome
truncated c n f k = record {
  reply = reply.Size (c.factor * k);
  after = with_file (discharged c f.owner (c.factor * (f.clusters - k))) n (cut c f k);
}

abbrev pub trunc_of : Cat → ℕ → Option File → ℕ → Outcome
trunc_of c n None blocks = refused c refusal.NoSuchFile
trunc_of c n (Some f) blocks =
    if is_kept n f then refused c refusal.NoPriv else truncated c n f (min f.clusters (in_clusters c blocks))

unfoldable pub trunc_outcome : Cat → Fid → ℕ → Outcome
trunc_outcome c file blocks = trunc_of c file.num (live c file) blocks

-- the file of this number is gone, and its owner is charged no more
abbrev pub removed : Cat → ℕ → File → Cat
removed c n f = freed (discharged c f.owner (cost c f.clusters)) n f

-- what comes next with the entry that is looked for, which names no system file
abbrev pub with_entry : Cat → Option DirEnt → (DirEnt → Outcome) → Outcome
with_entry c None next = refused c refusal.NoSuchFile
with_entry c (Some e) next = if nat_le e.fid.num 11 then refused c refusal.NoPriv else next e

-- DELETE
abbrev pub has_entries : Option File → Bool
has_entries None = false
has_entries (Some f) = f.dir && not (is_nil f.entries)

-- the file loses its entry, in a catalogue that has lost it
abbrev pub unnamed : Cat → ℕ → Option File → Outcome
unnamed c n None = told c reply.EntryRemoved
unnamed c n (Some f) =
    if is_open c n then told (with_file c n (record f { marked = true })) reply.Marked else told (removed c n f) reply.Deleted

-- a directory without an entry
abbrev pub less_entry : Cat → ℕ → File → DirEnt → Cat
less_entry c dir d e = with_entries c dir d (without e.name e.ver d.entries)

unfoldable pub delete_outcome : Cat → Fid → List ℕ → ℕ → Outcome
delete_outcome c dir name ver = in_directory c dir (λ d. with_entry c (entry_of (versions name d.entries) ver) (λ e.
    if has_entries (in_use c e.fid) then refused c refusal.DirNotEmpty
    else unnamed (less_entry c dir.num d e) e.fid.num (in_use c e.fid)))

-- RENAME
unfoldable pub rename_refusal : Cat → File → List ℕ → ℕ → Option Refusal
rename_refusal c d to to_ver =
    let es = versions to d.entries in first_refusal (
    (is_last_version to_ver es, refusal.BadVersion)
    ∷ (is_taken (new_version to_ver es) es, refusal.DupFile)
    ∷ (not (fits c.factor (inserted (entry to (new_version to_ver es) nowhere) d.entries)), refusal.DirFull)
    ∷ [])

abbrev pub renamed : Cat → ℕ → File → DirEnt → List ℕ → ℕ → Outcome
renamed c dir d e to ver = record {
  reply = reply.Renamed to ver;
  after = with_entries c dir d (inserted (entry to ver e.fid) (without e.name e.ver d.entries));
}

unfoldable pub rename_outcome : Cat → Fid → List ℕ → ℕ → List ℕ → ℕ → Outcome
rename_outcome c dir name ver to to_ver = in_directory c dir (λ d. with_entry c (entry_of (versions name d.entries) ver) (λ e.
    unless c (rename_refusal c d to to_ver) (renamed c dir.num d e to (new_version to_ver (versions to d.entries)))))

-- OPEN
abbrev pub conflicts : ℕ → Mode → Option Open → Bool
conflicts n mode None = false
conflicts n mode (Some o) = (o.file == n) && not (compatible_modes mode o.mode)

abbrev pub open_of : Cat → ℕ → ℕ → ℕ → Option File → Mode → Outcome
open_of c node chan n None mode = refused c refusal.NoSuchFile
open_of c node chan n (Some f) mode = unless c (first_refusal (
    (is_kept n f, refusal.NoPriv)
    ∷ (list_any (conflicts n mode) c.opens, refusal.AccConflict)
    ∷ []))
    (told (with_channel c node chan (Some (record { file = n; mode = mode }))) reply.Opened)

unfoldable pub open_outcome : Cat → ℕ → ℕ → Fid → Mode → Outcome
open_outcome c node chan file mode =
    if is_some (channel_at c node chan) then refused c refusal.ChanBusy
    else open_of c node chan file.num (live c file) mode

-- CLOSE
abbrev pub closed : Cat → ℕ → Option File → Outcome
closed c n None = told c (reply.Closed false)
closed c n (Some f) = if f.marked && not (is_open c n) then told (removed c n f) (reply.Closed true) else told c (reply.Closed false)

abbrev pub close_of : Cat → ℕ → ℕ → Option Open → Outcome
close_of c node chan None = refused c refusal.NotOpen
close_of c node chan (Some o) = closed (with_channel c node chan None) o.file (file_at c o.file)

unfoldable pub close_outcome : Cat → ℕ → ℕ → Outcome
close_outcome c node chan = close_of c node chan (channel_at c node chan)

-- whether a virtual block is 0 or past the allocated blocks
abbrev pub is_outside : Cat → File → ℕ → Bool
is_outside c f vbn = (vbn == 0) || nat_lt (blocks_of c f) vbn

-- READ
abbrev pub read_of : Cat → Option File → ℕ → Outcome
read_of c None vbn = refused c refusal.EndOfFile
read_of c (Some f) vbn = if is_outside c f vbn then refused c refusal.EndOfFile else told c (reply.Bytes (block_of f vbn))

abbrev pub read_open : Cat → Option Open → ℕ → Outcome
read_open c None vbn = refused c refusal.NotOpen
read_open c (Some o) vbn = read_of c (file_at c o.file) vbn

unfoldable pub read_outcome : Cat → ℕ → ℕ → ℕ → Outcome
read_outcome c node chan vbn = read_open c (channel_at c node chan) vbn

-- WRITE
abbrev pub is_reading : Mode → Bool
is_reading NL = false
is_reading CR = true
is_reading CW = false
is_reading PR = true
is_reading PW = false
is_reading EX = false

abbrev pub write_of : Cat → ℕ → Option File → ℕ → List ℕ → Outcome
write_of c n None vbn text = refused c refusal.EndOfFile
write_of c n (Some f) vbn text =
    if is_outside c f vbn then refused c refusal.EndOfFile else told (with_file c n (written f vbn text)) reply.Written

abbrev pub write_open : Cat → Option Open → ℕ → List ℕ → Outcome
write_open c None vbn text = refused c refusal.NotOpen
write_open c (Some o) vbn text =
    if is_reading o.mode then refused c refusal.NoPriv else write_of c o.file (file_at c o.file) vbn text

unfoldable pub write_outcome : Cat → ℕ → ℕ → ℕ → List ℕ → Outcome
write_outcome c node chan vbn text = write_open c (channel_at c node chan) vbn text

-- QUOTASET
abbrev pub quota_set_of : Cat → Option QuotaRow → Uic → ℕ → ℕ → Outcome
quota_set_of c (Some r) owner quota over = told (record c { quota = map (allowed owner quota over) c.quota }) reply.QuotaKept
quota_set_of c None owner quota over =
    if nat_le c.rows (length c.quota) then refused c refusal.QuotaFull
    else told (record c { quota = with_row (record { owner = owner; usage = 0; quota = quota; over = over }) c.quota }) reply.QuotaKept

unfoldable pub quota_set_outcome : Cat → Uic → ℕ → ℕ → Outcome
quota_set_outcome c owner quota over = quota_set_of c (row_of owner c.quota) owner quota over

-- QUOTASHOW
abbrev pub quota_shown : Cat → Option QuotaRow → Outcome
quota_shown c None = refused c refusal.NoQuota
quota_shown c (Some r) = told c (reply.Usage r.usage r.quota r.over)

unfoldable pub quota_show_outcome : Cat → Uic → Outcome
quota_show_outcome c owner = quota_shown c (row_of owner c.quota)

-- What a node's command is answered, and the catalogue after it, where new is the number that a new file or a new header
-- takes, or none where there is none.
unfoldable pub outcome : Cat → ℕ → Cmd → Option ℕ → Outcome
outcome c node (cmd.Lookup reg dir name ver) new = lookup_outcome c dir name ver
outcome c node (cmd.List dir) new = list_outcome c dir
outcome c node (cmd.Stat file) new = stat_outcome c file
outcome c node (cmd.Create reg dir name ver blocks owner) new = create_outcome c dir name ver blocks owner new
outcome c node (cmd.MkDir reg dir name owner) new = mkdir_outcome c dir name owner new
outcome c node (cmd.Extend file blocks) new = extend_outcome c file blocks new
outcome c node (cmd.Trunc file blocks) new = trunc_outcome c file blocks
outcome c node (cmd.Delete dir name ver) new = delete_outcome c dir name ver
outcome c node (cmd.Rename dir name ver to to_ver) new = rename_outcome c dir name ver to to_ver
outcome c node (cmd.OpenFile chan file mode) new = open_outcome c node chan file mode
outcome c node (cmd.CloseFile chan) new = close_outcome c node chan
outcome c node (cmd.ReadBlock chan vbn) new = read_outcome c node chan vbn
outcome c node (cmd.WriteBlock chan vbn text) new = write_outcome c node chan vbn text
outcome c node (cmd.QuotaSet owner quota over) new = quota_set_outcome c owner quota over
outcome c node (cmd.QuotaShow owner) new = quota_show_outcome c owner

-- whether a command takes space: CREATE and MKDIR take clusters and a number for a new file, and EXTEND takes clusters and
-- may take a number for a new header
abbrev pub takes_space : Cmd → Bool
takes_space (cmd.Create reg dir name ver blocks owner) = true
takes_space (cmd.MkDir reg dir name owner) = true
takes_space (cmd.Extend file blocks) = true
takes_space other = false

-- a free number, where a new header can have one, and else none
abbrev pub IsPick : Cat → Option ℕ → Type 0
IsPick c None = has_free_number c ≡ false
IsPick c (Some n) = is_free_number c n && has_free_number c ≡ true

-- Node `node` gives a command to c, the reply is r, and the catalogue after it d. The one free choice is the number that a
-- new file takes.
abbrev pub Answer : Cat → ℕ → Cmd → Reply → Cat → Type 0
Answer c node cmd r d = (new : Option ℕ) × IsPick c new × (outcome c node cmd new ≡ record { reply = r; after = d })
