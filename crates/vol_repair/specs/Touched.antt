-- Where the writes of a repair lie that are made before the blocks spell a catalogue, and what they leave.
use Rattle.std.specs.Prelude.{◌≡◌, ◌+◌, ◌*◌, ◌==◌, ◌&&◌, ◌||◌, ◌⊎◌, ℕ, Bool, true, false, List, [], length, slice_index_or}
use Rattle.base_words.specs.Fields.{Block, AreWholeBlocks}
use Rattle.base_words.specs.Lists.{Has}
use Rattle.fx_home.specs.declared.home.Home.{Home}
use Rattle.fx_header.specs.Pointers.{lbns_in}
use Rattle.vol_parts.specs.Parts.{is_among, storage_blocks}
use Rattle.vol_parts.specs.Volumes.{Volume, volume, IsNumber, factor, total, runs, bitmap_lbn, block_at}
use Rattle.vol_sound.specs.Sound.{is_sound}
use Rattle.vol_sound.specs.Kept.{is_marked_directory}
use Rattle.vol_sound.specs.Freeing.{HasSystem, HasSlotsFreed, HasAllFreed, is_header_place}

-- where the blocks of a file lie, in the file's order
abbrev pub places : Volume → ℕ → List ℕ
places v n = lbns_in (runs v n)

-- ---- three kinds of places

-- a directory whose blocks a repair may write: the two system directories, and a sound one that is marked for delete
abbrev pub is_remade : Volume → ℕ → Bool
is_remade v n = (n == 4) || ((n == 11) || (is_sound v n && is_marked_directory v n))

-- a block of such a directory
pub record IsDirPlace (v : Volume) (l : ℕ) : Type 0 where
  pub dir : ℕ
  pub number : IsNumber v dir
  pub remade : is_remade v dir ≡ true
  pub block : Has (places v dir) l

-- a quota block
abbrev pub IsRowPlace : Volume → ℕ → Type 0
IsRowPlace v l = Has (places v 10) l

-- the block of the index-file bitmap, or one of the storage bitmap
abbrev pub IsBitPlace : Volume → ℕ → Type 0
IsBitPlace v l = (l ≡ 4 * factor v) ⊎ (is_among (bitmap_lbn v + 1) (storage_blocks (total v)) l ≡ true)

abbrev pub IsTouchable : Volume → ℕ → Type 0
IsTouchable v l = IsDirPlace v l ⊎ (IsRowPlace v l ⊎ IsBitPlace v l)

-- ---- what stays

-- as many blocks, and all but those at these places are the same
pub record IsMadeIn (R : ℕ → Type 0) (old new : List Block) : Type 0 where
  pub count : length new ≡ length old
  pub others : (l : ℕ) → (R l → ⊥) → slice_index_or new l [] ≡ slice_index_or old l []

-- Of the first blocks some slots have become free that are not kept, and of all others only those at such places may have changed.
pub record IsTouched (home : Home) (first now : List Block) : Type 0 where
  pub freed : HasSlotsFreed home first now
  pub others : (l : ℕ) → is_header_place (volume home first) l ≡ false → (IsTouchable (volume home first) l → ⊥) → block_at (volume home now) l ≡ block_at (volume home first) l

-- Nothing was beyond repair in the first blocks; all slots that are not kept have become free, and no more than that was touched.
pub record IsGround (home : Home) (first now : List Block) : Type 0 where
  pub system : HasSystem (volume home first)
  pub touched : IsTouched home first now
  pub freed : HasAllFreed home first now
  pub whole : AreWholeBlocks now
