-- The bytes that the entries of blocks take, each block for itself, and the longest of their names.
use Rattle.std.specs.Prelude.{◌+◌, max, ℕ, List, [], ◌∷◌, None, length}
use Rattle.base_words.specs.Fields.{Block}
use Rattle.base_words.specs.Packing.{size}
use Rattle.fx_dir.specs.declared.RawEnt.{RawEnt}
use Rattle.fx_dir.specs.Directory.{entries_at}
use Rattle.fx_dir.specs.Writing.{name_of}

abbrev pub bytes_of : List RawEnt → ℕ
bytes_of es = size name_of None es

abbrev pub longest_of : List RawEnt → ℕ
longest_of [] = 0
longest_of (e ∷ es) = max (length e.name) (longest_of es)

-- of blocks
abbrev pub bytes_in : List Block → ℕ
bytes_in [] = 0
bytes_in (b ∷ bs) = bytes_of (entries_at b) + bytes_in bs

abbrev pub longest_in : List Block → ℕ
longest_in [] = 0
longest_in (b ∷ bs) = max (longest_of (entries_at b)) (longest_in bs)
