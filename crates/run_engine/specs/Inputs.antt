-- What a call reads and what it leaves: the bytes of a script, and the blocks of an image. Some sources and images tell them to contracts;
-- others, as files, do not.
use Rattle.std.specs.Prelude.{◌≡◌, ℕ, List, Option, IfSome, length}
use Rattle.base_words.specs.Fields.{Block}
use Rattle.blk_drive.specs.Telling.{IsTold, told_as}

-- There are bytes of which this holds: those that the source tells, if it tells any.
pub record OfScript (left : Option (List ℕ)) (P : List ℕ → Type 0) : Type 0 where
  pub bytes : List ℕ
  pub read : IfSome left (λ x. bytes ≡ x)
  pub holds : P bytes

-- There are blocks that the image has then, of which this holds: those that it tells then, if it tells any.
pub record Leaves (told now : Option (List Block)) (P : List Block → Type 0) : Type 0 where
  pub new : List Block
  pub left : now ≡ told_as told new
  pub holds : P new

-- There are blocks, as many as the image has, and blocks that it has then, of which this holds: those that it tells, if it tells any.
pub record OfImage (size : ℕ) (told now : Option (List Block)) (P : List Block → List Block → Type 0) : Type 0 where
  pub old : List Block
  pub count : length old ≡ size
  pub read : IsTold told old
  pub then : Leaves told now (P old)
