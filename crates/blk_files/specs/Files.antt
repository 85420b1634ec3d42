-- What files hold, and what is known of them.
use Rattle.std.specs.Prelude.{◌≡◌, ◌≤◌, ◌+◌, ◌*◌, ℕ, List, Option, length, take, slice_range, option_map}
use Rattle.std.specs.Option.{option_or}
use Rattle.std.specs.Simd.{first_chunks}
use Rattle.base_words.specs.Fields.{Block, put}

-- the bytes at an offset of a file are these
pub record Holds (f : List ℕ) (at : ℕ) (bytes : List ℕ) : Type 0 where
  pub inside : at + length bytes ≤ length f
  pub same : slice_range f at (at + length bytes) ≡ bytes

-- where the bytes are told, those at an offset are others
abbrev pub put_in : Option (List ℕ) → ℕ → List ℕ → Option (List ℕ)
put_in told at bytes = option_map (λ f. put f at bytes) told

-- the file of an image, how many blocks it has, and, once all were read, its bytes as the reads gave them and writes left them
pub record Known (F : Type 0) : Type 0 where
  pub file : F
  pub size : ℕ
  pub held : Option (List ℕ)

-- the bytes of an image: those that its file tells, or else those that are held
abbrev pub bytes_of : {F : Type 0} → (F → Option (List ℕ)) → Known F → Option (List ℕ)
bytes_of tells image = option_or (tells image.file) image.held

-- its blocks
abbrev pub blocks_of : {F : Type 0} → (F → Option (List ℕ)) → Known F → Option (List Block)
blocks_of tells image = option_map (first_chunks 512 image.size) (bytes_of tells image)

-- the file has all the blocks, and those in memory are its first ones
pub record IsOver (size : ℕ) (blocks : List Block) (f : List ℕ) : Type 0 where
  pub within : size * 512 ≤ length f
  pub first : blocks ≡ take (length blocks) (first_chunks 512 size f)
