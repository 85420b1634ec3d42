-- What the image below a drive tells.
use Rattle.std.specs.Prelude.{◌≡◌, ◌⊎◌, List, Option}
use Rattle.base_words.specs.Fields.{Block}
use Rattle.blk_drive.specs.Telling.{told_as}

-- what it tells once a write of a turn has failed: the blocks before the turn, or those that the turn would have left
abbrev pub IsTorn : Option (List Block) → Option (List Block) → List Block → List Block → Type 0
IsTorn told now before after = (now ≡ told_as told before) ⊎ (now ≡ told_as told after)
