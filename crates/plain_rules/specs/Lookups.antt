-- What stands in a catalogue.
use Rattle.std.specs.Prelude.{◌==◌, ◌&&◌, ◌-◌, ◌+◌, ◌*◌, ◌/◌, nat_lt, ℕ, Bool, true, false, not, List, [], ◌∷◌, Option, Some, None, slice_get, drop, filter, length, if◌then◌else◌}
use Rattle.std.specs.List.{sum_by, count_by, list_any, range_with_len}
use Rattle.std.specs.Str.{bytes_eq}
use Rattle.plain_cat.specs.declared.ids.Fid.{Fid}
use Rattle.plain_cat.specs.declared.ids.Uic.{Uic}
use Rattle.plain_cat.specs.declared.entries.DirEnt.{DirEnt}
use Rattle.plain_cat.specs.declared.cat.Cat.{Cat}
use Rattle.plain_cat.specs.declared.cat.File.{File}
use Rattle.plain_cat.specs.declared.cat.Slot.{Slot}
use Rattle.plain_cat.specs.declared.cat.Slot.TheVariants.{Used, Free}
use Rattle.plain_cat.specs.declared.cat.Open.{Open}
use Rattle.plain_cat.specs.declared.cat.QuotaRow.{QuotaRow}
use Rattle.plain_cat.specs.declared.reply.Reply.{Reply}
use Rattle.plain_cat.specs.declared.reply.Reply.TheVariants as reply
use Rattle.plain_cat.specs.declared.reply.Refusal.TheVariants as refusal

-- the slot of a number, which counts from 1
abbrev pub slot_at : Cat → ℕ → Option Slot
slot_at c n = if n == 0 then None else slice_get c.files (n - 1)

-- the file in a slot
abbrev pub file_in : Option Slot → Option File
file_in None = None
file_in (Some (Free seq)) = None
file_in (Some (Used f)) = Some f

abbrev pub file_at : Cat → ℕ → Option File
file_at c n = file_in (slot_at c n)

-- the last sequence of a slot
abbrev pub last_seq : Option Slot → ℕ
last_seq None = 0
last_seq (Some (Free seq)) = seq
last_seq (Some (Used f)) = f.seq

abbrev pub of_seq : ℕ → Option File → Option File
of_seq seq None = None
of_seq seq (Some f) = if f.seq == seq then Some f else None

-- The file in use under an identifier: its number is one of the volume's, the slot is used, and the sequence is equal.
abbrev pub in_use : Cat → Fid → Option File
in_use c fid = of_seq fid.seq (file_at c fid.num)

abbrev pub unmarked : Option File → Option File
unmarked None = None
unmarked (Some f) = if f.marked then None else Some f

-- the live file under an identifier: in use, and not marked for delete
abbrev pub live : Cat → Fid → Option File
live c fid = unmarked (in_use c fid)

-- the entries of a name, in order, so by falling version
abbrev pub versions : List ℕ → List DirEnt → List DirEnt
versions name es = filter (λ e. bytes_eq e.name name) es

-- the highest version, which comes first; 0 where there is none
abbrev pub highest : List DirEnt → ℕ
highest [] = 0
highest (e ∷ es) = e.ver

-- the entry of a version
abbrev pub first_with : ℕ → List DirEnt → Option DirEnt
first_with ver [] = None
first_with ver (e ∷ es) = if e.ver == ver then Some e else first_with ver es

-- the entry that is looked for among those of its name, where 0 means the highest version
abbrev pub entry_of : List DirEnt → ℕ → Option DirEnt
entry_of es ver = first_with (if ver == 0 then highest es else ver) es

-- what a look-up answers
abbrev pub found : Option DirEnt → Reply
found None = reply.Refused refusal.NoSuchFile
found (Some e) = reply.Found e.fid e.name e.ver

-- the place of a node's channel; both count from 1, and a node has eight
abbrev pub place : ℕ → ℕ → ℕ
place node chan = 8 * (node - 1) + (chan - 1)

abbrev pub joined : Option (Option Open) → Option Open
joined None = None
joined (Some o) = o

-- what a node's channel has open
abbrev pub channel_at : Cat → ℕ → ℕ → Option Open
channel_at c node chan = joined (slice_get c.opens (place node chan))

-- whether a channel has the file of this number open
abbrev pub has_file : ℕ → Option Open → Bool
has_file n None = false
has_file n (Some o) = o.file == n

-- whether some channel of some node has the file of this number open
abbrev pub is_open : Cat → ℕ → Bool
is_open c n = list_any (has_file n) c.opens

-- the quota row of an owner
abbrev pub row_of : Uic → List QuotaRow → Option QuotaRow
row_of owner [] = None
row_of owner (r ∷ rs) = if r.owner.0 == owner.0 then Some r else row_of owner rs

-- the clusters of a slot's file
abbrev pub clusters_in : Slot → ℕ
clusters_in (Used f) = f.clusters
clusters_in (Free seq) = 0

-- The free clusters: all less the reserved ones, which are those of the files 1 to 11, the leaked ones, and those of all
-- other files, marked ones among them.
abbrev pub free_clusters : Cat → ℕ
free_clusters c = c.total - c.reserved - c.leaked - sum_by clusters_in (drop 11 c.files)

abbrev pub is_free_slot : Option Slot → Bool
is_free_slot None = false
is_free_slot (Some (Used f)) = false
is_free_slot (Some (Free seq)) = true

abbrev pub is_set : Option Bool → Bool
is_set None = false
is_set (Some b) = b

-- whether a number is leaked
abbrev pub is_leaked : Cat → ℕ → Bool
is_leaked c n = is_set (slice_get c.leaked_numbers (n - 1))

-- whether a number is free: of no file, and not leaked
abbrev pub is_free_number : Cat → ℕ → Bool
is_free_number c n = is_free_slot (slot_at c n) && not (is_leaked c n)

-- the most clusters of one header
abbrev pub header_most : ℕ
header_most = 77

-- the most clusters of a file above number 11, which has up to sixteen headers
abbrev pub file_most : ℕ
file_most = 1232

-- How many extension headers a file of k clusters has. Its first header and each further one has up to header_most of them.
abbrev pub extra : ℕ → ℕ
extra k = (k - 1) / header_most

-- whether a file of k clusters needs a new header for so many more
abbrev pub needs_header : ℕ → ℕ → Bool
needs_header k more = nat_lt (extra k) (extra (k + more))

-- the extension headers of a slot's file
abbrev pub extra_in : Slot → ℕ
extra_in s = extra (clusters_in s)

-- the extension headers of all files above number 11, marked ones among them
abbrev pub headers_more : Cat → ℕ
headers_more c = sum_by extra_in (drop 11 c.files)

-- How many numbers there are to take: the free ones less those of extension headers, which the catalogue does not know one by
-- one and so calls free.
abbrev pub free_count : Cat → ℕ
free_count c = count_by (is_free_number c) (range_with_len 1 (length c.files)) - headers_more c

-- whether a new header can have a number
abbrev pub has_free_number : Cat → Bool
has_free_number c = nat_lt 0 (free_count c)
