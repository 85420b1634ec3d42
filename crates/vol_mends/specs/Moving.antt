-- The writes by which mending changes a directory: it packs the entries, takes out the ones that do not stay, and enters lost files.
use Rattle.std.specs.Prelude.{◌≡◌, ◌≤◌, ◌<◌, ◌-◌, ℕ, true, false, List, Some, Ok, is_some, length, map, take}
use Rattle.base_words.specs.Fields.{Block}
use Rattle.fx_header.specs.Pointers.{lbns_in}
use Rattle.fx_dir.specs.declared.RawEnt.{RawEnt}
use Rattle.fx_dir.specs.declared.Move.{Move}
use Rattle.fx_dir.specs.Entries.{has}
use Rattle.fx_dir.specs.Directory.{directory}
use Rattle.fx_dir.specs.Writing.{IsInForm}
use Rattle.fx_dir.specs.Moves.{key, insertion, removal, packing_writes, repacking}
use Rattle.plain_cat.specs.declared.cat.Cat.{Cat}
use Rattle.plain_cat.specs.declared.cat.File.{File}
use Rattle.plain_rules.specs.declared.places.Place.{Place}
use Rattle.plain_rules.specs.Lookups.{file_at, versions}
use Rattle.plain_rules.specs.Directories.{is_taken}
use Rattle.plain_rules.specs.Mending.{enter, lost_entry}
use Rattle.plain_mends.specs.Resuming.{Goes, less_one}
use Rattle.vol_parts.specs.declared.geometry.Geometry.{Geometry}
use Rattle.vol_parts.specs.Catalogues.{plain_entry}
use Rattle.base_words.specs.Lists.{Has, Touches}
use Rattle.vol_spell.specs.Reading.{IsFileNumber, header_block, runs_told}
use Rattle.vol_spell.specs.Entries.{places_in, blocks_of, places_written, after_moves, raw_entry}
use Rattle.vol_mends.specs.Mends.{Mends}
use Rattle.vol_mends.specs.Going.{Change}
use Rattle.vol_mends.specs.Told.{IsTold, LeadsTo, IsSingle, KeepsSingles}

-- the catalogue that the blocks tell has the directory d under number n
pub record HasDir (g : Geometry) (bs : List Block) (c : Cat) (n : ℕ) (d : File) : Type 0 where
  pub told : IsTold g bs c
  pub file : file_at c n ≡ Some d
  pub dir : d.dir ≡ true

-- the entries of a directory, as its blocks have them, and where these blocks are
pub record DirTold (g : Geometry) (bs : List Block) (n : ℕ) (d : File) : Type 0 where
  pub number : IsFileNumber g n
  pub entries : List RawEnt
  pub read : directory (blocks_of g bs n) ≡ Ok entries
  pub lists : d.entries ≡ map plain_entry entries
  pub has : (name : List ℕ) (ver : ℕ) → has entries (key name ver) ≡ is_taken ver (versions name d.entries)
  pub count : length (blocks_of g bs n) ≡ g.cluster
  pub places : lbns_in (runs_told (header_block g bs n)) ≡ places_in (header_block g bs n)
  pub within : (l : ℕ) → Has (places_in (header_block g bs n)) l → l < length bs

-- a directory of the catalogue is read of its blocks
abbrev pub DirIsRead : Type 0
DirIsRead = (g : Geometry) (bs : List Block) (c : Cat) (n : ℕ) (d : File) → HasDir g bs c n d → DirTold g bs n d

-- Moves in directory n, each to a block of the volume. The first j of them leave the catalogue c, and with the next one it is d. No
-- other directory gets entries that stand in two blocks, and after all moves directory n has none.
pub record MovesLead (g : Geometry) (bs : List Block) (c d : Cat) (n j : ℕ) (ms : List Move) : Type 0 where
  pub before : (k : ℕ) → k ≤ j → LeadsTo g bs c c (after_moves g n (take k ms) bs)
  pub behind : (k : ℕ) → j < k → k ≤ length ms → LeadsTo g bs c d (after_moves g n (take k ms) bs)
  pub singles : (k i : ℕ) → k ≤ length ms → IsFileNumber g i → (i ≡ n → ⊥) → IsSingle g bs i → IsSingle g (after_moves g n (take k ms) bs) i
  pub packed : IsSingle g (after_moves g n ms bs) n
  pub within : (l : ℕ) → Touches (places_written (header_block g bs n) ms) l → l < length bs

-- After each number of such moves the blocks mend to the same. After all of them no directory has got entries that stand in two blocks,
-- and the blocks tell the other catalogue, or c where none of them decides.
pub record MovesMend : Type 0 where
  pub each : (g : Geometry) (bs : List Block) (c d : Cat) (n j : ℕ) (ms : List Move) (k : ℕ) (z : Cat) → MovesLead g bs c d n j ms → Mends bs z → Mends (after_moves g n (take k ms) bs) z
  pub singles : (g : Geometry) (bs : List Block) (c d : Cat) (n j : ℕ) (ms : List Move) → MovesLead g bs c d n j ms → KeepsSingles g bs (after_moves g n ms bs)
  pub other : (g : Geometry) (bs : List Block) (c d : Cat) (n j : ℕ) (ms : List Move) → MovesLead g bs c d n j ms → j < length ms → IsTold g (after_moves g n ms bs) d
  pub same : (g : Geometry) (bs : List Block) (c d : Cat) (n j : ℕ) (ms : List Move) → MovesLead g bs c d n j ms → length ms ≤ j → IsTold g (after_moves g n ms bs) c

-- the moves that pack the entries of a directory leave the catalogue
abbrev pub DirIsPacked : Type 0
DirIsPacked = (g : Geometry) (bs : List Block) (c : Cat) (n : ℕ) (d : File) → HasDir g bs c n d → let ms = repacking (blocks_of g bs n) in MovesLead g bs c c n (length ms) ms

-- the moves of a removal take an entry out that does not stay, and the first behind those that pack the entries decides
pub record EntryGoes : Type 0 where
  pub leads : (g : Geometry) (bs : List Block) (c : Cat) (p : Place) (d : File) → IsTold g bs c → Goes c p d
      → MovesLead g bs c (less_one c p d) p.dir (packing_writes (blocks_of g bs p.dir)) (removal (blocks_of g bs p.dir) p.entry.name p.entry.ver)
  pub decides : (g : Geometry) (bs : List Block) (c : Cat) (p : Place) (d : File) → IsTold g bs c → Goes c p d
      → packing_writes (blocks_of g bs p.dir) < length (removal (blocks_of g bs p.dir) p.entry.name p.entry.ver)

-- the file f of number n, and [SYSLOST], which is d, where the entry of f would have a version that a name can have
pub record CanEnter (g : Geometry) (bs : List Block) (c : Cat) (n : ℕ) (d f : File) : Type 0 where
  pub lost : HasDir g bs c 11 d
  pub file : file_at c n ≡ Some f
  pub version : (lost_entry d.entries n f.seq).ver ≤ 32767

-- Its entry is within the limits of the format, and its name and version are not there yet. It has moves exactly where there is room
-- for it. They enter it, and the last of them decides.
pub record LostIsEntered : Type 0 where
  pub form : (g : Geometry) (bs : List Block) (c : Cat) (n : ℕ) (d f : File) → CanEnter g bs c n d f → IsInForm (raw_entry (lost_entry d.entries n f.seq))
  pub new : (g : Geometry) (bs : List Block) (c : Cat) (n : ℕ) (d f : File) (es : List RawEnt) → CanEnter g bs c n d f → directory (blocks_of g bs 11) ≡ Ok es → has es (raw_entry (lost_entry d.entries n f.seq)) ≡ false
  pub room : (g : Geometry) (bs : List Block) (c : Cat) (n : ℕ) (d f : File) → CanEnter g bs c n d f
      → is_some (insertion (blocks_of g bs 11) (raw_entry (lost_entry d.entries n f.seq))) ≡ is_some (enter c n)
  pub leads : (g : Geometry) (bs : List Block) (c y : Cat) (n : ℕ) (d f : File) (ms : List Move) → CanEnter g bs c n d f
      → insertion (blocks_of g bs 11) (raw_entry (lost_entry d.entries n f.seq)) ≡ Some ms → enter c n ≡ Some y → Change c y → MovesLead g bs c y 11 (length ms - 1) ms
  pub decides : (g : Geometry) (bs : List Block) (c y : Cat) (n : ℕ) (d f : File) (ms : List Move) → CanEnter g bs c n d f
      → insertion (blocks_of g bs 11) (raw_entry (lost_entry d.entries n f.seq)) ≡ Some ms → enter c n ≡ Some y → length ms - 1 < length ms
