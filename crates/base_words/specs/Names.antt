-- Names in a directory: a text NAME.TYP of capital letters, digits and a few other characters.
use Rattle.std.specs.Prelude.{◌==◌, ◌&&◌, ◌||◌, leb, Bool, false, ℕ, List, [], ◌∷◌, length, drop}
use Rattle.std.specs.List.{list_all, prefix_len}

-- A to Z, 0 to 9, a dollar sign, an underscore or a hyphen
unfoldable pub is_character : ℕ → Bool
is_character c = ((leb 65 c && leb c 90) || (leb 48 c && leb c 57)) || (c == 36 || (c == 95 || c == 45))

-- NAME or TYP by itself
unfoldable pub is_part : List ℕ → Bool
is_part text = leb (length text) 39 && list_all is_character text

-- the dot, and the TYP behind it
abbrev pub is_tail : List ℕ → Bool
is_tail [] = false
is_tail (c ∷ text) = c == 46 && is_part text

-- NAME.TYP
unfoldable pub is_name : List ℕ → Bool
is_name text = leb (prefix_len is_character text) 39 && is_tail (drop (prefix_len is_character text) text)
