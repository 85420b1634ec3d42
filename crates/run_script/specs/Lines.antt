-- The lines of a script, and the words of a line.
use Rattle.std.specs.Prelude.{◌==◌, ℕ, List, [], ◌∷◌, if◌then◌else◌, suc}
use Rattle.std.specs.List.{slice_split}

-- a byte in front of the first of these lines
abbrev pub onto_line : ℕ → List (List ℕ) → List (List ℕ)
onto_line b [] = (b ∷ []) ∷ []
onto_line b (l ∷ ls) = (b ∷ l) ∷ ls

-- the lines of a text: each ends with a line feed, which the last may lack
abbrev pub lines_of : List ℕ → List (List ℕ)
lines_of [] = []
lines_of (b ∷ bs) = if b == 10 then [] ∷ lines_of bs else onto_line b (lines_of bs)

-- the parts of a text, which is cut at each of these bytes
abbrev pub parts : ℕ → List ℕ → List (List ℕ)
parts byte text = slice_split (λ b. b == byte) text

-- the words of a line: it is cut at each space, so that a word is empty where a space stands at an end or beside another
abbrev pub words_of : List ℕ → List (List ℕ)
words_of line = parts 32 line

-- how many bytes stand in front of the first line feed, or all
abbrev pub front : List ℕ → ℕ
front [] = 0
front (b ∷ bs) = if b == 10 then 0 else suc (front bs)
