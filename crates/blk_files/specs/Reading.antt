-- What was read of a file.
use Rattle.std.specs.Prelude.{◌≡◌, ◌*◌, ℕ, List, Option, length, take}
use Rattle.std.specs.Option.{ForSome}
use Rattle.std.specs.Simd.{first_chunks}
use Rattle.base_words.specs.Fields.{Block}

-- so many blocks were read: their bytes are noted. Where the file tells its bytes, they are those.
pub record IsRead (count : ℕ) (tells : Option (List ℕ)) (noted : List ℕ) (blocks : List Block) : Type 0 where
  pub whole : length noted ≡ 512 * count
  pub same : ForSome tells (λ f. noted ≡ take (512 * count) f)
  pub blocks_of : blocks ≡ first_chunks 512 count noted
