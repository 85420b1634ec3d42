-- The headers of a file as a command has seen them, how it comes to see more than the first one, and the writes that change them.
use Rattle.std.specs.Prelude.{◌==◌, ◌-◌, ◌+◌, ◌*◌, ◌/◌, ◌++◌, ℕ, zero, suc, false, List, [], ◌∷◌, Option, Some, None, option_map, map, take, drop, length, if◌then◌else◌}
use Rattle.base_words.specs.Fields.{Block}
use Rattle.fx_header.specs.declared.slot.Hdr.{Hdr}
use Rattle.fx_header.specs.Headers.{header_read, header_bytes, freed, scattered, with_map, with_blocks, with_link, with_mark}
use Rattle.lock_db.specs.declared.name.LockName.{LockName}
use Rattle.lock_db.specs.declared.name.LockName.TheVariants.{S}
use Rattle.plain_cat.specs.declared.mode.Mode.{Mode}
use Rattle.plain_cat.specs.declared.history.Stage.{Stage}
use Rattle.plain_cat.specs.declared.history.Stage.TheVariants as stage
use Rattle.plain_cat.specs.declared.cat.File.{File}
use Rattle.plain_rules.specs.Lookups.{extra, header_most}
use Rattle.vol_parts.specs.declared.geometry.Geometry.{Geometry}
use Rattle.vol_parts.specs.Volumes.{fields_in}
use Rattle.vol_spell.specs.Reading.{header_place, header_block, told_of}
use Rattle.op_law.specs.declared.need.PlanWrite.{PlanWrite}
use Rattle.op_law.specs.Events.{Events, Take, Look}
use Rattle.op_law.specs.Refusing.{SeenFile, seen_file}
use Rattle.op_law.specs.SeenFiles.{file_clusters}
use Rattle.op_law.specs.Entering.{slot_seq}
use Rattle.op_law.specs.Writing.{holding, with_numbers, header_write, runs_for}

-- ---- headers that were seen

-- the number of the header slot at an LBN
abbrev pub slot_at : Geometry → ℕ → ℕ
slot_at g lbn = lbn - 4 * g.cluster

-- the numbers of headers that were seen, each with its place
abbrev pub slots_seen : Geometry → List (ℕ × Block) → List ℕ
slots_seen g seen = map (λ x. slot_at g x.0) seen

-- the numbers of all headers of a file that were seen
abbrev pub numbers_of : Geometry → SeenFile → List ℕ
numbers_of g f = f.num ∷ slots_seen g f.rest

-- The number of the slot, and the block, of the last header of a file: the first one has this number and this block, and the others
-- stand at these places.
abbrev pub last_header : Geometry → ℕ → Block → List (ℕ × Block) → ℕ × Block
last_header g n b [] = (n, b)
last_header g n b (x ∷ rest) = last_header g (slot_at g x.0) x.1 rest

-- the number to which the link of a header with these fields leads, 0 where it has none
abbrev pub link_in : Option Hdr → ℕ
link_in None = 0
link_in (Some h) = h.ext

-- the same by the block of the header
abbrev pub next_number : Block → ℕ
next_number b = link_in (fields_in (header_read b))

-- the file, of which one header more was seen
abbrev pub with_header : Geometry → ℕ → Block → SeenFile → SeenFile
with_header g m b f = record f { rest = f.rest ++ (header_place g m, b) ∷ [] }

-- Along the links from the header b on, k headers more, each under the lock of its number in this mode, and what comes next with the file.
abbrev pub through_links : Geometry → Mode → ℕ → Block → SeenFile → (SeenFile → Events) → Events
through_links g mode zero b f next = next f
through_links g mode (suc k) b f next =
    let m = next_number b in
    Take (S m) mode (Look (S m) (header_place g m) (λ x. through_links g mode k x (with_header g m x f) next))

-- all headers of a file, by its clusters
abbrev pub through_chain : Geometry → Mode → SeenFile → (SeenFile → Events) → Events
through_chain g mode f next = through_links g mode (extra f.file.clusters) f.head f next

-- the headers up to that which lists a virtual block; the first block is 1
abbrev pub through_part : Geometry → Mode → ℕ → SeenFile → (SeenFile → Events) → Events
through_part g mode vbn f next = through_links g mode ((vbn - 1) / (header_most * g.cluster)) f.head f next

-- ---- all headers of a file that stands on blocks

-- the numbers of a file's other headers, in order
abbrev pub others_told : Geometry → List Block → ℕ → List ℕ
others_told g bs n = drop 1 (told_of g bs n).slots

-- the header of a number as it is seen: its place, and the block there
abbrev pub placed : Geometry → List Block → ℕ → ℕ × Block
placed g bs m = (header_place g m, header_block g bs m)

-- the other headers of the file of number n, in order, each with its place
abbrev pub headers_behind : Geometry → List Block → ℕ → List (ℕ × Block)
headers_behind g bs n = map (placed g bs) (others_told g bs n)

-- their locks, each in this mode
abbrev pub locks_behind : Geometry → List Block → ℕ → Mode → List (LockName × Mode)
locks_behind g bs n mode = map (λ m. (S m, mode)) (others_told g bs n)

-- the file of this first header as a command sees it that has seen the first k of its other headers
abbrev pub part_file : Geometry → List Block → ℕ → Hdr → ℕ → SeenFile
part_file g bs n h k = record (seen_file g n (header_block g bs n) h) { rest = take k (headers_behind g bs n) }

-- and that has seen all of them
abbrev pub whole_file : Geometry → List Block → ℕ → Hdr → SeenFile
whole_file g bs n h = record (seen_file g n (header_block g bs n) h) { rest = headers_behind g bs n }

-- ---- what headers list

-- what the last header lists in a file that has the first k of these clusters
abbrev pub tail_of : ℕ → List ℕ → List ℕ
tail_of k qs = drop (header_most * extra k) (take k qs)

-- how many clusters more the last header of a file of k clusters can list
abbrev pub room_for : ℕ → ℕ
room_for k = header_most * (extra k + 1) - k

-- a header that lists these clusters, with a link to this number and sequence
unfoldable pub listing : Geometry → Block → List ℕ → ℕ × ℕ → Block
listing g b qs link = with_link (with_map b (runs_for g qs)) link.0 link.1

-- the link of a last header
abbrev pub no_link : ℕ × ℕ
no_link = (0, 0)

-- ---- a file that gets clusters

-- the fields of a header of a file that has place `seg` in its chain, in a slot of this number and sequence
abbrev pub next_fields : File → ℕ → ℕ × ℕ → Hdr
next_fields f seg new = record {
  num = new.0;
  seq = new.1;
  owner = f.owner.0;
  dir = false;
  marked = false;
  blocks = 0;
  mark = 0;
  end = 0;
  byte = 0;
  seg = seg;
  ext = 0;
  ext_seq = 0;
}

-- A new header of a file behind its last one, in a slot of this number and sequence. Its back link is the file's identifier, its ident
-- area is that of an empty name, and it lists these clusters.
unfoldable pub next_header : Geometry → SeenFile → ℕ × ℕ → List ℕ → Block
next_header g f new qs =
    with_map (header_bytes (next_fields f.file (extra f.file.clusters + 1) new) [] (f.num, f.file.seq)) (runs_for g qs)

-- the mark of a file that gets more blocks: where it had none, the blocks that it has stay written
abbrev pub grown_mark : Geometry → File → ℕ
grown_mark g f = if f.mark == 0 then g.cluster * f.clusters + 1 else f.mark

-- The first header of a file with k clusters more, which is not said to be contiguous any more. The block b is this header with what it
-- lists then and with its link.
unfoldable pub grown_first : Geometry → File → Block → ℕ → Block
grown_first g f b k = scattered (with_mark (with_blocks b (g.cluster * (f.clusters + k))) (grown_mark g f))

-- those of the new clusters that the last header lists, and those that a new one does
abbrev pub front_part : SeenFile → List ℕ → List ℕ
front_part f qs = take (room_for f.file.clusters) qs

abbrev pub behind_part : SeenFile → List ℕ → List ℕ
behind_part f qs = drop (room_for f.file.clusters) qs

-- the link to a new header, if there is one
abbrev pub link_to : Option (ℕ × ℕ) → ℕ × ℕ
link_to None = no_link
link_to (Some new) = new

-- what the last header of the file lists then, and its link
abbrev pub grown_last : Geometry → SeenFile → Block → List ℕ → Option (ℕ × ℕ) → Block
grown_last g f b qs new = listing g b (tail_of f.file.clusters (file_clusters g f) ++ front_part f qs) (link_to new)

-- the write of the new header, if there is one
abbrev pub new_header_writes : Geometry → SeenFile → List ℕ → Option (ℕ × ℕ) → List PlanWrite
new_header_writes g f qs None = []
new_header_writes g f qs (Some new) =
    header_write g new.0 (next_header g f new (behind_part f qs)) stage.Charged (holding qs (Some new.0)) ∷ []

-- the writes of the headers that were there: where the first one is the last one it is one write
abbrev pub old_header_writes : Geometry → SeenFile → List ℕ → Option (ℕ × ℕ) → List (ℕ × Block) → List PlanWrite
old_header_writes g f qs new [] =
    header_write g f.num (grown_first g f.file (grown_last g f f.head qs new) (length qs)) stage.Done (holding [] None) ∷ []
old_header_writes g f qs new (x ∷ rest) =
    let last = last_header g (slot_at g x.0) x.1 rest in
    header_write g last.0 (grown_last g f last.1 qs new) stage.Charged (holding qs (option_map (λ n. n.0) new))
    ∷ header_write g f.num (grown_first g f.file f.head (length qs)) stage.Done (holding [] None)
    ∷ []

-- The file gets these clusters, and a new header of this number and sequence, if there is one: the new header, the last one, and the
-- first one, which decides.
unfoldable pub headers_grown : Geometry → SeenFile → List ℕ → Option (ℕ × ℕ) → List PlanWrite
headers_grown g f qs new = new_header_writes g f qs new ++ old_header_writes g f qs new f.rest

-- ---- a file that loses clusters

-- the writes that make header slots free, each with the sequence that it had; these clusters and numbers are outside meanwhile
abbrev pub slots_freed : Geometry → Stage → List ℕ → List ℕ → List (ℕ × Block) → List PlanWrite
slots_freed g s qs ns slots =
    map (λ x. with_numbers ns (header_write g (slot_at g x.0) (freed (slot_seq (header_read x.1))) s (holding qs None))) slots

-- the headers that a file keeps behind the first one if it keeps k clusters, and those that go
abbrev pub kept_headers : SeenFile → ℕ → List (ℕ × Block)
kept_headers f k = take (extra k) f.rest

abbrev pub gone_headers : SeenFile → ℕ → List (ℕ × Block)
gone_headers f k = drop (extra k) f.rest

-- what the last header of the file lists then
abbrev pub cut_last : Geometry → SeenFile → ℕ → Block → Block
cut_last g f k b = listing g b (tail_of k (file_clusters g f)) no_link
