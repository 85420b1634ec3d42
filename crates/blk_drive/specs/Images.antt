-- What an image holds, and what a drive is.
use Rattle.std.specs.Prelude.{◌≡◌, ◌≤◌, ◌<◌, ◌⊎◌, ℕ, List, length, slice_set, Option, Some, None}
use Rattle.base_words.specs.Fields.{Block}

-- where the blocks are told, there are so many
abbrev pub HasSize : Option (List Block) → ℕ → Type 0
HasSize None n = Unit {0}
HasSize (Some bs) n = length bs ≡ n

-- where the blocks are told, one of them is another
abbrev pub told_set : Option (List Block) → ℕ → Block → Option (List Block)
told_set None lbn b = None
told_set (Some bs) lbn b = Some (slice_set bs lbn b)

-- a number of blocks that a volume may have
pub record IsInside (n : ℕ) : Type 0 where
  pub low : 64 ≤ n
  pub high : n ≤ 65536

-- and one that it may not
abbrev pub IsOutside : ℕ → Type 0
IsOutside n = (n < 64) ⊎ (65536 < n)

-- the blocks in memory, and the image below them
pub record Drive (I : Type 0) : Type 0 where
  pub blocks : List Block
  pub image : I

-- so many blocks in memory stand for an image of so many
pub record IsDrive (count size : ℕ) : Type 0 where
  pub inside : IsInside count
  pub same : size ≡ count
