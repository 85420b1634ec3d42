-- What a contract sees of images in files and of files in memory.
use Rattle.std.specs.Prelude.{ℕ, List, Option, None, Some}
use Rattle.base_words.specs.Fields.{Block}
use Rattle.blk_files.specs.Files.{Known, blocks_of}

-- what is known of the file, if there is one, how many calls failed, and how many of these were writes
pub record FileView (F : Type 0) : Type 0 where
  pub known : Option (Known F)
  pub faults : ℕ
  pub lost : ℕ

-- the blocks of an image that may have no file
abbrev pub told_by : {F : Type 0} → (F → Option (List ℕ)) → Option (Known F) → Option (List Block)
told_by tells None = None
told_by tells (Some image) = blocks_of tells image

-- how many there are
abbrev pub size_of : {F : Type 0} → Option (Known F) → ℕ
size_of None = 0
size_of (Some image) = image.size
