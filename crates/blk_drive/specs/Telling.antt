-- What an image tells of its blocks.
use Rattle.base_words.specs.Fields.{Block}
use Rattle.std.specs.Prelude.{IfSome, List, Option, ◌≡◌, None, Some}

-- an image that tells its blocks has these
abbrev pub IsTold : Option (List Block) → List Block → Type 0
IsTold told bs = IfSome told (λ x. bs ≡ x)

-- what it tells once its blocks are these
abbrev pub told_as : Option (List Block) → List Block → Option (List Block)
told_as None bs = None
told_as (Some told) bs = Some bs
