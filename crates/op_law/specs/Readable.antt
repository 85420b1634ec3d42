-- Headers whose runs can be read, and directories that are read without a fault.
use Rattle.std.specs.Prelude.{◌≡◌, ◌+◌, ◌≤◌, ℕ, true, List, [], ◌∷◌, Some, IsOk, All, IsTrue, length, take}
use Rattle.base_words.specs.Fields.{Block}
use Rattle.fx_dir.specs.declared.Version.{Version}
use Rattle.fx_dir.specs.Directory.{directory}
use Rattle.fx_header.specs.declared.run.Run.{Run}
use Rattle.fx_header.specs.declared.slot.Hdr.{Hdr}
use Rattle.fx_header.specs.Headers.{has_offsets, has_map, runs_in}
use Rattle.fx_header.specs.Pointers.{blocks_in}
use Rattle.plain_cat.specs.declared.ids.Fid.{Fid}
use Rattle.plain_cat.specs.declared.entries.DirEnt.{DirEnt}
use Rattle.vol_spell.specs.Entries.{places_in}
use Rattle.vol_spell.specs.Reading.{fields_told, runs_told}
use Rattle.op_law.specs.Rows.{live_in}
use Rattle.op_law.specs.Behind.{blocks_alone}
use Rattle.op_law.specs.declared.seeing.Listed.{Listed}
use Rattle.op_law.specs.declared.seeing.Listed.TheVariants as listed
use Rattle.op_law.specs.declared.seeing.Listing.{Listing}
use Rattle.op_law.specs.declared.seeing.Listing.TheVariants as listing

-- the retrieval pointers of a header in use can be read
pub record HasMap (b : Block) : Type 0 where
  pub offsets : IsTrue (has_offsets b)
  pub map : IsTrue (has_map b)

-- a run ends at or before LBN 65,536
abbrev pub EndsInside : Run → Type 0
EndsInside r = r.lbn + r.count ≤ 65536

-- all runs that a header lists do
abbrev pub ListsInside : Block → Type 0
ListsInside b = All EndsInside (runs_in b)

-- Where a block is the first header of a file, the file has at most 65,536 blocks, and the runs of those that the header lists do.
-- What it lists behind them may lie anywhere; that of a directory lists all blocks of the directory, and nothing else.
pub record AreInside (b : Block) : Type 0 where
  pub runs : All EndsInside (runs_told b)
  pub few : (h : Hdr) → fields_told b ≡ Some h → h.blocks ≤ 65536
  pub dir : (h : Hdr) → fields_told b ≡ Some h → h.dir ≡ true → runs_told b ≡ runs_in b
  pub enough : (h : Hdr) → fields_told b ≡ Some h → h.dir ≡ true → h.blocks ≤ blocks_in (runs_in b)

-- so it is with the header that was seen first
abbrev pub HeadIsInside : List (ℕ × Block) → Type 0
HeadIsInside [] = Unit {0}
HeadIsInside (h ∷ seen) = AreInside h.1

-- these blocks are read as a directory without a fault
abbrev pub IsRead : List (ℕ × Block) → Type 0
IsRead seen = IsOk (directory (blocks_alone seen))

-- what an entry says besides its name
abbrev pub version_told : DirEnt → Version
version_told e = record { ver = e.ver; num = e.fid.num; seq = e.fid.seq }

-- where a header is that of this live directory, its blocks are read so, once all of them were seen behind it
abbrev pub BodyIsRead : Fid → Block → List (ℕ × Block) → Type 0
BodyIsRead dir head seen = (h : Hdr) → live_in dir.seq head ≡ Some h → h.dir ≡ true → length (places_in head) ≤ length seen → IsRead (take (length (places_in head)) seen)

-- so it is with the header that was seen first
abbrev pub HeadIsReadable : Fid → List (ℕ × Block) → Type 0
HeadIsReadable dir [] = Unit {0}
HeadIsReadable dir (h ∷ seen) = BodyIsRead dir h.1 seen

-- the blocks that were all seen are read so
abbrev pub ListedRead : Listed → Type 0
ListedRead (listed.All seen rest) = IsRead seen.now
ListedRead (listed.Next need) = Unit {0}

-- those of a directory are
abbrev pub ListsRead : Listing → Type 0
ListsRead (listing.All b seen rest) = IsRead seen.now
ListsRead (listing.Next need) = Unit {0}
