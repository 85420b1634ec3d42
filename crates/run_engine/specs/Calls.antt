-- What a call of a program finds.
use Rattle.std.specs.Prelude.{ℕ, List, Option}
use Rattle.base_words.specs.Fields.{Block}

-- its words, the bytes of the script that are left, the image's size and its blocks, what was written to the sink, each where it is told, and
-- how many calls of the script and the image had failed, how many writes of the image were lost, and how many calls of the sink had failed
pub record Given : Type 0 where
  pub words : List (List ℕ)
  pub left : Option (List ℕ)
  pub size : ℕ
  pub told : Option (List Block)
  pub written : Option (List ℕ)
  pub script_faults : ℕ
  pub image_faults : ℕ
  pub image_lost : ℕ
  pub out_faults : ℕ
