-- The writes by which the entries of a directory change, and the catalogue after each of them.
use Rattle.std.specs.Prelude.{◌≡◌, ◌≤◌, ◌<◌, ◌-◌, ◌^◌, ℕ, true, false, List, Some, Ok, length, map, take, slice_index_or}
use Rattle.base_words.specs.Fields.{Block, IsWholeBlock}
use Rattle.base_words.specs.Names.{is_name}
use Rattle.fx_header.specs.Headers.{runs_in}
use Rattle.fx_header.specs.Pointers.{lbns_in}
use Rattle.fx_dir.specs.declared.RawEnt.{RawEnt}
use Rattle.fx_dir.specs.declared.Move.{Move}
use Rattle.fx_dir.specs.Lists.{Each}
use Rattle.fx_dir.specs.Directory.{dir_entries}
use Rattle.fx_dir.specs.Moves.{AreChanges, written as moved, insertion, removal, packing_writes}
use Rattle.plain_cat.specs.declared.entries.DirEnt.{DirEnt}
use Rattle.plain_cat.specs.declared.cat.Cat.{Cat}
use Rattle.plain_cat.specs.declared.cat.File.{File}
use Rattle.plain_rules.specs.Lookups.{file_at, versions}
use Rattle.plain_rules.specs.Directories.{inserted, without, is_taken, fits}
use Rattle.plain_rules.specs.Changes.{with_entries}
use Rattle.base_words.specs.Lists.{written}
use Rattle.vol_spell.specs.Owners.{Owners}
use Rattle.vol_spell.specs.Spread.{blocks_at}
use Rattle.vol_parts.specs.declared.geometry.Geometry.{Geometry}
use Rattle.vol_parts.specs.Catalogues.{plain_entry}
use Rattle.vol_spell.specs.Reading.{IsFileNumber, header_block}
use Rattle.vol_spell.specs.Spelling.{Spells}
use Rattle.vol_spell.specs.Views.{IsSameFile}

-- ---- a directory's blocks

-- where the blocks of the file of a header stand, in order
abbrev pub places_in : Block → List ℕ
places_in b = lbns_in (runs_in b)

-- the blocks of file n by its header
abbrev pub blocks_of : Geometry → List Block → ℕ → List Block
blocks_of g bs n = blocks_at bs (places_in (header_block g bs n))

-- the writes of moves, by the header of their directory
abbrev pub places_written : Block → List Move → List (ℕ × Block)
places_written head ms = map (λ m. (slice_index_or (places_in head) (m.vbn - 1) 0, m.block)) ms

-- the blocks of the volume after moves in directory n
abbrev pub after_moves : Geometry → ℕ → List Move → List Block → List Block
after_moves g n ms bs = written (places_written (header_block g bs n) ms) bs

-- ---- moves that lead from entries to others

-- moves of a directory's blocks, of which the first j leave its entries and the others change them
pub record AreMovesTo (body : List Block) (old new : List RawEnt) (j : ℕ) (ms : List Move) : Type 0 where
  pub whole : Each (λ m. IsWholeBlock m.block) ms
  pub changes : AreChanges ms body
  pub decides : j < length ms
  pub same : (i : ℕ) → i ≤ j → dir_entries (moved (take i ms) body) ≡ Ok old
  pub other : (i : ℕ) → j < i → i ≤ length ms → dir_entries (moved (take i ms) body) ≡ Ok new

-- such moves in directory n of the catalogue x
pub record AreMovesIn (g : Geometry) (bs : List Block) (own : Owners) (x : Cat) (n : ℕ) (d : File) (old new : List RawEnt) (j : ℕ) (ms : List Move) : Type 0 where
  pub spelt : Spells g bs own x
  pub number : IsFileNumber g n
  pub file : file_at x n ≡ Some d
  pub dir : d.dir ≡ true
  pub moves : AreMovesTo (blocks_of g bs n) old new j ms

-- the first of them, up to the one that decides, leave the catalogue; from that one on it has the other entries
pub record MovesSpelt : Type 0 where
  pub before : (g : Geometry) (bs : List Block) (own : Owners) (x : Cat) (n : ℕ) (d : File) (old new : List RawEnt) (j : ℕ) (ms : List Move) (k : ℕ) → AreMovesIn g bs own x n d old new j ms → k ≤ j → Spells g (after_moves g n (take k ms) bs) own x
  pub behind : (g : Geometry) (bs : List Block) (own : Owners) (x : Cat) (n : ℕ) (d : File) (old new : List RawEnt) (j : ℕ) (ms : List Move) (k : ℕ) → AreMovesIn g bs own x n d old new j ms → j < k → k ≤ length ms
      → Spells g (after_moves g n (take k ms) bs) own (with_entries x n d (map plain_entry new))

-- each other file has the same header and the same blocks after them, and the directory has its header and the blocks that they leave
pub record MovesLeave : Type 0 where
  pub others : (g : Geometry) (bs : List Block) (own : Owners) (x : Cat) (n : ℕ) (d : File) (old new : List RawEnt) (j : ℕ) (ms : List Move) (i : ℕ) → AreMovesIn g bs own x n d old new j ms → IsFileNumber g i → (i ≡ n → ⊥)
      → IsSameFile g bs (after_moves g n ms bs) i
  pub header : (g : Geometry) (bs : List Block) (own : Owners) (x : Cat) (n : ℕ) (d : File) (old new : List RawEnt) (j : ℕ) (ms : List Move) → AreMovesIn g bs own x n d old new j ms → header_block g (after_moves g n ms bs) n ≡ header_block g bs n
  pub blocks : (g : Geometry) (bs : List Block) (own : Owners) (x : Cat) (n : ℕ) (d : File) (old new : List RawEnt) (j : ℕ) (ms : List Move) → AreMovesIn g bs own x n d old new j ms → blocks_of g (after_moves g n ms bs) n ≡ moved ms (blocks_of g bs n)

-- ---- an entry that comes

-- an entry within the limits of the format, which is not in the directory yet and has room there
pub record CanBeEntered (g : Geometry) (x : Cat) (n : ℕ) (d : File) (e : DirEnt) : Type 0 where
  pub number : IsFileNumber g n
  pub file : file_at x n ≡ Some d
  pub dir : d.dir ≡ true
  pub name : is_name e.name ≡ true
  pub ver_from : 1 ≤ e.ver
  pub ver_to : e.ver ≤ 32767
  pub num : e.fid.num ≤ 16777215
  pub seq : e.fid.seq < 2 ^ 16
  pub new : is_taken e.ver (versions e.name d.entries) ≡ false
  pub room : fits g.cluster (inserted e d.entries) ≡ true

-- an entry as a directory's blocks have it; its version limit and flags are those of a new name
abbrev pub raw_entry : DirEnt → RawEnt
raw_entry e = record { name = e.name; ver = e.ver; num = e.fid.num; seq = e.fid.seq; limit = 32767; flags = 0 }

-- the moves of its insertion lead from entries to those with it, and the last of them decides
pub record Enters (g : Geometry) (bs : List Block) (n : ℕ) (d : File) (e : DirEnt) : Type 0 where
  pub moves : List Move
  pub inserted_by : insertion (blocks_of g bs n) (raw_entry e) ≡ Some moves
  pub old : List RawEnt
  pub new : List RawEnt
  pub lead : AreMovesTo (blocks_of g bs n) old new (length moves - 1) moves
  pub entries : map plain_entry new ≡ inserted e d.entries

abbrev pub EntryEnters : Type 0
EntryEnters = (g : Geometry) (bs : List Block) (own : Owners) (x : Cat) (n : ℕ) (d : File) (e : DirEnt) → Spells g bs own x → CanBeEntered g x n d e → Enters g bs n d e

-- ---- an entry that goes

-- the directory d of number n has an entry of this name and version
pub record CanBeRemoved (g : Geometry) (x : Cat) (n : ℕ) (d : File) (e : DirEnt) : Type 0 where
  pub number : IsFileNumber g n
  pub file : file_at x n ≡ Some d
  pub dir : d.dir ≡ true
  pub there : is_taken e.ver (versions e.name d.entries) ≡ true

-- the moves of its removal lead from entries to those without it, and the first behind those that pack the entries decides
pub record Leaves (g : Geometry) (bs : List Block) (n : ℕ) (d : File) (e : DirEnt) : Type 0 where
  pub old : List RawEnt
  pub new : List RawEnt
  pub lead : AreMovesTo (blocks_of g bs n) old new (packing_writes (blocks_of g bs n)) (removal (blocks_of g bs n) e.name e.ver)
  pub entries : map plain_entry new ≡ without e.name e.ver d.entries

abbrev pub EntryLeaves : Type 0
EntryLeaves = (g : Geometry) (bs : List Block) (own : Owners) (x : Cat) (n : ℕ) (d : File) (e : DirEnt) → Spells g bs own x → CanBeRemoved g x n d e → Leaves g bs n d e
