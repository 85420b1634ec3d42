-- A file as the command has seen it, in order to change its headers.
use Rattle.std.specs.Prelude.{◌≡◌, ◌≤◌, ◌<◌, ◌+◌, ◌/◌, ℕ, true, List, [], ◌∷◌, Some, IsTrue, length, take}
use Rattle.base_words.specs.Fields.{Block}
use Rattle.fx_header.specs.declared.slot.Hdr.{Hdr}
use Rattle.fx_header.specs.Headers.{has_offsets}
use Rattle.plain_rules.specs.Lookups.{header_most, file_most, extra, needs_header}
use Rattle.base_words.specs.Lists.{Has}
use Rattle.vol_parts.specs.declared.geometry.Geometry.{Geometry}
use Rattle.vol_spell.specs.Reading.{IsFileNumber, total_of, fields_told}
use Rattle.op_law.specs.Refusing.{SeenFile, seen_file}
use Rattle.op_law.specs.SeenFiles.{file_clusters}
use Rattle.op_law.specs.Headers.{slot_at}
use Rattle.op_steps.specs.Chains.{AreHeaders}
use Rattle.op_steps.specs.Seeing.{file_seen, IsReadable}
use Rattle.op_steps.specs.declared.seeing.FileSeen.{FileSeen}
use Rattle.op_extend.specs.declared.headers.HeaderSeen.{HeaderSeen}

-- ---- what was seen

-- a block that was seen at the place of a header: its number is one of the volume's, and it has the areas of a header
pub record IsSlotSeen (g : Geometry) (x : ℕ × Block) : Type 0 where
  pub number : slot_at g x.0 ≤ g.files
  pub offsets : IsTrue (has_offsets x.1)

-- all of these blocks are such
abbrev pub AreSlots : Geometry → List (ℕ × Block) → Type 0
AreSlots g seen = (x : ℕ × Block) → Has seen x → IsSlotSeen g x

-- all headers of a file were seen: it has the clusters of its blocks, all of the volume and not more than a file may have
pub record IsWhole (g : Geometry) (f : SeenFile) : Type 0 where
  pub count : length (file_clusters g f) ≡ f.file.clusters
  pub there : (q : ℕ) → Has (file_clusters g f) q → q < total_of g
  pub few : f.file.clusters ≤ file_most
  pub headers : length f.rest ≡ extra f.file.clusters
  pub slots : AreSlots g f.rest

-- the header b, which says h, is the first of file n, and these blocks were seen behind it: the file's other headers come first
pub record IsBegun (g : Geometry) (n : ℕ) (b : Block) (h : Hdr) (seen : List (ℕ × Block)) : Type 0 where
  pub headers : AreHeaders g (extra (h.blocks / g.cluster)) h b seen
  pub whole : extra (h.blocks / g.cluster) ≤ length seen → IsWhole g (record (seen_file g n b h) { rest = take (extra (h.blocks / g.cluster)) seen })

-- so it is with the header of a file above number 11 that was seen first
abbrev pub FirstIsBegun : Geometry → ℕ → Block → List (ℕ × Block) → Type 0
FirstIsBegun g n b seen = 11 < n → (h : Hdr) → fields_told b ≡ Some h → IsBegun g n b h seen

abbrev pub FileIsBegun : Geometry → ℕ → List (ℕ × Block) → Type 0
FileIsBegun g n [] = Unit {0}
FileIsBegun g n (x ∷ seen) = FirstIsBegun g n x.1 seen

-- ---- the file in code

-- the file has a number of the volume, its runs can be read, and all of its headers were seen
pub record IsSeenWhole (g : Geometry) (f : FileSeen) : Type 0 where
  pub number : f.num ≤ g.files
  pub readable : IsReadable f
  pub whole : IsWhole g (file_seen g f)

-- it has more than k clusters
pub record CanBeCut (g : Geometry) (f : FileSeen) (k : ℕ) : Type 0 where
  pub seen : IsSeenWhole g f
  pub more : k < f.fields.blocks / g.cluster

-- the file gets these clusters of the volume: no more than a header lists, and with those that it has no more than a file may have
pub record IsGrowth (g : Geometry) (f : FileSeen) (qs : List ℕ) : Type 0 where
  pub there : (q : ℕ) → Has qs q → q < total_of g
  pub growth : length qs ≤ header_most
  pub all : f.fields.blocks / g.cluster + length qs ≤ file_most

-- the number and the sequence of a slot for the new header that the file needs for k clusters more
pub record IsNewSlot (g : Geometry) (f : FileSeen) (k : ℕ) (slot : ℕ × ℕ) : Type 0 where
  pub number : IsFileNumber g slot.0
  pub needed : needs_header (f.fields.blocks / g.cluster) k ≡ true

-- the header is that of this number, with this block
pub record IsLast (last : ℕ × Block) (h : HeaderSeen) : Type 0 where
  pub num : h.num ≡ last.0
  pub block : h.block.now ≡ last.1
