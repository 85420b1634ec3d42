-- Tables of fields, as the description of a format has them.
use Rattle.std.specs.Prelude.{ℕ, List, [], ◌∷◌, replicate}
use Rattle.base_words.specs.Fields.{Block, put_field}

-- a block of zeros
unfoldable pub zeros : Block
zeros = replicate 512 0

-- of each field its offset, its width in bytes and its number
abbrev pub Table : Type 0
Table = List (ℕ × ℕ × ℕ)

-- the block with the fields of a table
abbrev pub laid : Table → Block → Block
laid [] b = b
laid ((o, w, n) ∷ table) b = laid table (put_field b o w n)
