-- The first line of a text that is too long for a record.
use Rattle.std.specs.Prelude.{◌+◌, ℕ, Bool, nat_lt, List, length, position, Option, option_map}

-- it has more bytes than a count can tell
abbrev pub is_long : List ℕ → Bool
is_long line = nat_lt 32767 (length line)

-- which line is the first that is too long, counted from 1
unfoldable pub long_line : List (List ℕ) → Option ℕ
long_line lines = option_map (λ before. before + 1) (position is_long lines)
