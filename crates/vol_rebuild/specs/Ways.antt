-- What mending does to a drive, whatever it answers: the writes that it makes, and what the image has.
use Rattle.std.specs.Prelude.{◌≡◌, ◌≤◌, ◌⊎◌, ℕ, List, Option, take, slice_set}
use Rattle.base_words.specs.Fields.{Block}
use Rattle.base_words.specs.Faults.{Rose}
use Rattle.plain_cat.specs.declared.cat.Cat.{Cat}
use Rattle.base_words.specs.Lists.{written}
use Rattle.vol_mends.specs.Mends.{Mends}
use Rattle.blk_drive.specs.Telling.{IsTold, told_as}

-- writes lead from the old blocks to the new ones, and after each number of them the blocks mend to the same
pub record IsWay (old new : List Block) : Type 0 where
  pub writes : List (ℕ × Block)
  pub made : new ≡ written writes old
  pub mends : (k : ℕ) (z : Cat) → Mends old z → Mends (written (take k writes) old) z

-- the image has one block more than the drive, and mends to the same
pub record IsAhead (told now : Option (List Block)) (old new : List Block) : Type 0 where
  pub place : ℕ
  pub block : Block
  pub there : now ≡ told_as told (slice_set new place block)
  pub mends : (z : Cat) → Mends old z → Mends (slice_set new place block) z

-- The way from the old blocks to the new ones. The count of faults did not fall, and rose where a write failed. The image has the new
-- blocks, or, where a write failed, may have the block of that write as well.
pub record IsStep (old new : List Block) (told now : Option (List Block)) (before after : ℕ) (Failed : Type 0) : Type 0 where
  pub way : IsWay old new
  pub later : before ≤ after
  pub cause : Failed → Rose before after
  pub image : IsTold told old → (now ≡ told_as told new) ⊎ (Failed × IsAhead told now old new)
