-- Writes to a drive, one after the other, of which one may fail.
use Rattle.std.specs.Prelude.{◌≡◌, ◌≤◌, ◌<◌, ◌+◌, ◌⊎◌, ℕ, List, [], ◌∷◌, Option, length, take}
use Rattle.base_words.specs.Fields.{Block}
use Rattle.base_words.specs.Faults.{Rose}
use Rattle.base_words.specs.Lists.{written}
use Rattle.blk_drive.specs.Telling.{IsTold, told_as}

-- the image has what the first writes make of the old blocks: those that the drive made, or, where a write failed, that one too
pub record IsImageOf (ws : List (ℕ × Block)) (old : List Block) (told now : Option (List Block)) (made : ℕ) (Failed : Type 0) : Type 0 where
  pub count : ℕ
  pub there : now ≡ told_as told (written (take count ws) old)
  pub few : (count ≡ made) ⊎ (Failed × (count ≡ made + 1))

-- The first of these writes are made, and lead from the old blocks to the new ones. All are, where none failed. The count of faults
-- did not fall, and rose where a write failed.
pub record IsMade (ws : List (ℕ × Block)) (old new : List Block) (told now : Option (List Block)) (before after : ℕ) (Failed : Type 0) : Type 0 where
  pub count : ℕ
  pub within : count ≤ length ws
  pub made : new ≡ written (take count ws) old
  pub whole : (count ≡ length ws) ⊎ Failed
  pub short : Failed → count < length ws
  pub later : before ≤ after
  pub cause : Failed → Rose before after
  pub image : IsTold told old → IsImageOf ws old told now count Failed

-- so many blocks at these places, one by one
abbrev pub placed : List ℕ → List Block → List (ℕ × Block)
placed [] bs = []
placed (l ∷ ls) [] = []
placed (l ∷ ls) (b ∷ bs) = (l, b) ∷ placed ls bs
