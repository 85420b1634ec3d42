-- What the parts of a repair leave that are made before the blocks spell a catalogue, each by itself.
use Rattle.std.specs.Prelude.{◌≡◌, ◌<◌, ◌&&◌, ◌||◌, not, ℕ, Bool, true, false, List, map, is_none}
use Rattle.base_words.specs.Fields.{Block}
use Rattle.fx_home.specs.declared.home.Home.{Home}
use Rattle.vol_parts.specs.Volumes.{Volume, volume, IsNumber, total, numbers, body, is_free_cluster, is_used_number, active_rows}
use Rattle.vol_parts.specs.Catalogues.{rows_sorted}
use Rattle.vol_parts.specs.Fatal.{dir_fault, has_two_rows}
use Rattle.vol_sound.specs.Sound.{is_sound, is_kept}
use Rattle.vol_sound.specs.Freeing.{LeavesOthers}
use Rattle.vol_sound.specs.Begun.{lacks_entry, begun_rows, is_in_kept}
use Rattle.vol_sound.specs.Kept.{is_marked_directory, IsEmptiedWhere, IsPackedWhere}
use Rattle.vol_repair.specs.Touched.{IsGround, IsDirPlace, IsRowPlace, IsBitPlace, IsMadeIn}

-- ---- directories

-- The master file directory has the entries of the system files, where it lacked one; [SYSLOST] is empty, where it could not be read;
-- a sound directory that is marked for delete is empty. The other files of these have their blocks.
pub record AreDirsMade (v p : Volume) : Type 0 where
  pub sound : (n : ℕ) → IsNumber v n → is_sound v n ≡ true → IsEmptiedWhere (is_marked_directory v n) v p n
  pub main : IsPackedWhere (lacks_entry v) v p
  pub lost : IsEmptiedWhere (not (is_none (dir_fault v 11))) v p 11

-- these blocks are the first ones but for slots that have become free; the flags say which files were sound
pub record IsBeforeDirs (home : Home) (first : List Block) (sound : List Bool) (now : List Block) : Type 0 where
  pub ground : IsGround home first now
  pub others : LeavesOthers home first now
  pub flags : sound ≡ map (is_sound (volume home first)) (numbers (volume home first))

pub record IsAfterDirs (home : Home) (first old new : List Block) : Type 0 where
  pub ground : IsGround home first new
  pub made : AreDirsMade (volume home first) (volume home new)
  pub others : IsMadeIn (IsDirPlace (volume home first)) old new

-- ---- quota rows

-- no owner has two rows, [1,1] has one, and the others are the first of each owner
pub record AreRowsMade (v p : Volume) : Type 0 where
  pub rows : rows_sorted (active_rows p) ≡ rows_sorted (begun_rows v)
  pub once : (uic : ℕ) → has_two_rows (active_rows p) uic ≡ false

-- the quota blocks are the first ones
pub record IsBeforeRows (home : Home) (first now : List Block) : Type 0 where
  pub ground : IsGround home first now
  pub rows : body (volume home now) 10 ≡ body (volume home first) 10

pub record IsAfterRows (home : Home) (first old new : List Block) : Type 0 where
  pub ground : IsGround home first new
  pub made : AreRowsMade (volume home first) (volume home new)
  pub others : IsMadeIn (IsRowPlace (volume home first)) old new

-- ---- bits

-- the clusters and the numbers of what is kept are in use
pub record AreBitsMade (v p : Volume) : Type 0 where
  pub clusters : (q : ℕ) → q < total v → is_free_cluster p q ≡ (is_free_cluster v q && not (is_in_kept v q))
  pub numbers : (n : ℕ) → IsNumber v n → is_used_number p n ≡ (is_used_number v n || is_kept v n)

-- the bits are the first ones; the flags say which header slots were kept
pub record IsBeforeBits (home : Home) (first : List Block) (kept : List Bool) (now : List Block) : Type 0 where
  pub ground : IsGround home first now
  pub flags : kept ≡ map (is_kept (volume home first)) (numbers (volume home first))
  pub clusters : (q : ℕ) → q < total (volume home first) → is_free_cluster (volume home now) q ≡ is_free_cluster (volume home first) q
  pub numbers : (n : ℕ) → IsNumber (volume home first) n → is_used_number (volume home now) n ≡ is_used_number (volume home first) n

pub record IsAfterBits (home : Home) (first old new : List Block) : Type 0 where
  pub ground : IsGround home first new
  pub made : AreBitsMade (volume home first) (volume home new)
  pub others : IsMadeIn (IsBitPlace (volume home first)) old new
