-- How a volume is listed: a line for each entry, with its full specification, one for each file without a name, and the sums.
use Rattle.std.specs.Prelude.{◌-◌, ◌==◌, ◌&&◌, ◌++◌, nat_lt, ℕ, zero, suc, Bool, List, [], length, take, drop, flat_map, is_none, is_some, codes, decimal, Option, Some, None, option_map, if◌then◌else◌}
use Rattle.std.specs.List.{sum_by, range_with_len}
use Rattle.std.specs.Str.{bytes_eq}
use Rattle.plain_cat.specs.declared.entries.DirEnt.{DirEnt}
use Rattle.plain_cat.specs.declared.cat.Cat.{Cat}
use Rattle.plain_cat.specs.declared.cat.File.{File}
use Rattle.plain_cat.specs.declared.cat.Slot.{Slot}
use Rattle.plain_cat.specs.declared.cat.Slot.TheVariants.{Used, Free}
use Rattle.plain_cat.specs.Names.{text_of}
use Rattle.plain_rules.specs.declared.places.Place.{Place}
use Rattle.plain_rules.specs.Lookups.{slot_at, file_at, last_seq, in_use}
use Rattle.plain_rules.specs.Mending.{places}
use Rattle.plain_texts.specs.Names.{fid_text, uic_text}
use Rattle.vol_faults.specs.Places.{first_in}
use Rattle.vol_show.specs.Showing.{blocks_of, size_of}

-- ---- the directory of an entry

-- an entry is one as a directory has, WORD.DIR;1
unfoldable pub is_dir_entry : DirEnt → Bool
is_dir_entry e = (e.ver == 1) && (nat_lt 4 (length e.name) && bytes_eq (drop (length e.name - 4) e.name) (codes ".DIR"))

-- the word
unfoldable pub dir_word : DirEnt → List ℕ
dir_word e = take (length e.name - 4) e.name

-- the words above an entry, if it leads on, and its own
abbrev pub above : Option Place → (ℕ → Option (List ℕ)) → Option (List ℕ)
above None up = None
above (Some p) up =
    if is_dir_entry p.entry then (if p.dir == 4 then Some (dir_word p.entry) else option_map (λ t. t ++ (codes "." ++ dir_word p.entry)) (up p.dir)) else None

-- The way to the directory of number n: at most k words, with full stops between them, from the master file directory on, which is file
-- 4. Each word is from the first entry of a directory.
unfoldable pub path : Cat → ℕ → ℕ → Option (List ℕ)
path c zero n = None
path c (suc k) n = above (first_in (places c) n (file_at c n)) (path c k)

-- the identifier of a directory, where there is no way of eight words
abbrev pub or_number : Cat → ℕ → Option (List ℕ) → List ℕ
or_number c n (Some text) = text
or_number c n None = decimal n ++ (codes "," ++ (decimal (last_seq (slot_at c n)) ++ codes ",0"))

-- what stands between the brackets of a specification
unfoldable pub dir_text : Cat → ℕ → List ℕ
dir_text c n = or_number c n (path c 8 n)

-- the full specification of an entry
unfoldable pub spec_text : Cat → Place → List ℕ
spec_text c p = codes "[" ++ (dir_text c p.dir ++ (codes "]" ++ text_of p.entry.name p.entry.ver))

-- ---- lines

-- a directory says that it is one, and another file how many bytes it has
abbrev pub size_text : Cat → File → List ℕ
size_text c f = if f.dir then codes "directory" else decimal (size_of c f) ++ codes " bytes"

abbrev pub mark_text : File → List ℕ
mark_text f = if f.marked then codes ", marked" else []

-- the owner of a file, its blocks and its bytes
unfoldable pub file_text : Cat → File → List ℕ
file_text c f = codes " " ++ (uic_text f.owner ++ (codes " " ++ (decimal (blocks_of c f) ++ (codes " blocks, " ++ (size_text c f ++ mark_text f)))))

abbrev pub use_text : Cat → Option File → List ℕ
use_text c (Some f) = file_text c f
use_text c None = codes " no file"

-- the line of an entry
unfoldable pub entry_line : Cat → Place → List ℕ
entry_line c p = spec_text c p ++ (codes " " ++ (fid_text p.entry.fid ++ (use_text c (in_use c p.entry.fid) ++ codes "\n")))

-- the line of a file that no entry names
abbrev pub nameless_line : Cat → ℕ → File → List ℕ
nameless_line c n f = fid_text (record { num = n; seq = f.seq }) ++ (file_text c f ++ codes ", no name\n")

-- ---- all lines

-- the file numbers of a catalogue
abbrev pub numbers : Cat → List ℕ
numbers c = range_with_len 1 (length c.files)

-- a number has a file that no entry names
unfoldable pub is_nameless : Cat → ℕ → Bool
is_nameless c n = is_some (file_at c n) && is_none (first_in (places c) n (file_at c n))

abbrev pub nameless_in : Cat → ℕ → Option File → List ℕ
nameless_in c n None = []
nameless_in c n (Some f) = if is_none (first_in (places c) n (Some f)) then nameless_line c n f else []

-- the line of a file that no entry names
unfoldable pub nameless_text : Cat → ℕ → List ℕ
nameless_text c n = nameless_in c n (file_at c n)

-- ---- sums, each file once

abbrev pub files_in : Slot → ℕ
files_in (Used f) = 1
files_in (Free seq) = 0

abbrev pub blocks_in : Cat → Slot → ℕ
blocks_in c (Used f) = blocks_of c f
blocks_in c (Free seq) = 0

-- a directory has no bytes to take out
abbrev pub bytes_in : Cat → Slot → ℕ
bytes_in c (Used f) = if f.dir then 0 else size_of c f
bytes_in c (Free seq) = 0

abbrev pub nameless_count : Cat → ℕ → ℕ
nameless_count c n = if is_nameless c n then 1 else 0

-- how many entries there are, and how many files
unfoldable pub counts_text : Cat → List ℕ
counts_text c = decimal (length (places c)) ++ (codes " entries, " ++ (decimal (sum_by files_in c.files) ++ codes " files, "))

-- the blocks and the bytes of all files
unfoldable pub space_text : Cat → List ℕ
space_text c = decimal (sum_by (blocks_in c) c.files) ++ (codes " blocks, " ++ (decimal (sum_by (bytes_in c) c.files) ++ codes " bytes, "))

-- how many files have no name
unfoldable pub rest_text : Cat → List ℕ
rest_text c = decimal (sum_by (nameless_count c) (numbers c)) ++ codes " without a name\n"

-- what is listed of a catalogue: the entries in order, the files without a name by their numbers, and the sums
unfoldable pub list_text : Cat → List ℕ
list_text c = flat_map (entry_line c) (places c) ++ (flat_map (nameless_text c) (numbers c) ++ (counts_text c ++ (space_text c ++ rest_text c)))
