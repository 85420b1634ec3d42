-- The lines of each node among all lines of a script.
use Rattle.std.specs.Prelude.{◌≡◌, ◌==◌, ℕ, suc, List, [], ◌∷◌, map, get_or, if◌then◌else◌}
use Rattle.plain_cat.specs.declared.script.Line.{Line}
use Rattle.plain_cat.specs.declared.script.LineCmd.{LineCmd}

-- the commands of a node, in the order of its lines
abbrev pub lines_of : ℕ → List Line → List LineCmd
lines_of node [] = []
lines_of node (l ∷ ls) = if l.node == node then l.cmd ∷ lines_of node ls else lines_of node ls

-- where the lines of a node stand, from 0
abbrev pub places_of : ℕ → List Line → List ℕ
places_of node [] = []
places_of node (l ∷ ls) = if l.node == node then 0 ∷ map suc (places_of node ls) else map suc (places_of node ls)

-- what each node has for its places; a node that has nothing has no line
unfoldable pub ArePlaces : List (List ℕ) → List Line → Type 0
ArePlaces all ls = (node : ℕ) → get_or all node [] ≡ places_of node ls
