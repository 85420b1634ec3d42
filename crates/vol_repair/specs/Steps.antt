-- What a repair does to a drive, whatever it answers: the writes that it makes, what holds after each of them, and what the image has.
use Rattle.std.specs.Prelude.{◌≡◌, ◌≤◌, ◌⊎◌, ℕ, List, Option, take, slice_set}
use Rattle.base_words.specs.Fields.{Block}
use Rattle.base_words.specs.Faults.{Rose}
use Rattle.base_words.specs.Lists.{written}
use Rattle.blk_drive.specs.Telling.{IsTold, told_as}

-- writes lead from the old blocks to the new ones, and after each number of them, none and all included, this holds of the blocks
pub record IsWay (P : List Block → Type 0) (old new : List Block) : Type 0 where
  pub writes : List (ℕ × Block)
  pub made : new ≡ written writes old
  pub holds : (k : ℕ) → P (written (take k writes) old)

-- the image has one block more than the drive, and this holds of its blocks
pub record IsAhead (P : List Block → Type 0) (told now : Option (List Block)) (new : List Block) : Type 0 where
  pub place : ℕ
  pub block : Block
  pub there : now ≡ told_as told (slice_set new place block)
  pub holds : P (slice_set new place block)

-- The way from the old blocks to the new ones. The count of faults did not fall, and rose where a write failed. The image has the new
-- blocks, or, where a write failed, may have the block of that write as well.
pub record IsStep (P : List Block → Type 0) (old new : List Block) (told now : Option (List Block)) (before after : ℕ) (Failed : Type 0) : Type 0 where
  pub way : IsWay P old new
  pub later : before ≤ after
  pub cause : Failed → Rose before after
  pub image : IsTold told old → (now ≡ told_as told new) ⊎ (Failed × IsAhead P told now new)
