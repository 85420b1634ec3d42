-- How histories grow, and what a node has of them.
use Rattle.std.specs.Prelude.{◌≡◌, ◌==◌, ◌++◌, ℕ, Bool, false, List, [], ◌∷◌, None}
use Rattle.std.specs.List.{list_any}
use Rattle.plain_cat.specs.declared.history.Entry.{Entry}
use Rattle.plain_cat.specs.declared.history.Entry.TheVariants.{Done, Died, Mended}
use Rattle.plain_cat.specs.declared.script.Line.{Line}
use Rattle.plain_cat.specs.declared.script.Script.{Script}
use Rattle.plain_cat.specs.declared.cat.Cat.{Cat}
use Rattle.plain_rules.specs.Own.{past, after_entry, next_command, IsNext, Own, Whole, IsKill, Killed}
use Rattle.plain_rules.specs.Replaying.{Leads, Replays}

-- an entry of this node
abbrev pub is_of : ℕ → Entry → Bool
is_of node (Done n c r) = n == node
is_of node (Died n st k l) = n == node
is_of node (Mended m) = false

-- the script has a line for this node
abbrev pub has_line : ℕ → Script → Bool
has_line node s = list_any (λ (l : Line). l.node == node) s.lines

-- what a node has, with one entry more
abbrev pub PastGrows : Type 0
PastGrows = (node : ℕ) (h : List Entry) (e : Entry) → past node (h ++ e ∷ []) ≡ after_entry node (past node h) e

-- what a node has, with an entry of another
abbrev pub PastOfOthers : Type 0
PastOfOthers = (node : ℕ) (h : List Entry) (e : Entry) → is_of node e ≡ false → past node (h ++ e ∷ []) ≡ past node h

abbrev pub OwnGrows : Type 0
OwnGrows = (s : Script) (h : List Entry) (e : Entry) → Own s h → IsNext s h e → Own s (h ++ e ∷ [])

abbrev pub ReplaysGrow : Type 0
ReplaysGrow = (c : Cat) (s : Script) (h : List Entry) (d : Cat) (e : Entry) (x : Cat) → Replays c s h d → Leads s h d e x → Replays c s (h ++ e ∷ []) x

abbrev pub KilledGrows : Type 0
KilledGrows = (s : Script) (h : List Entry) (e : Entry) → Killed s h → IsKill s e → Killed s (h ++ e ∷ [])

abbrev pub OwnWhole : Type 0
OwnWhole = (s : Script) (h : List Entry) → Own s h → ((node : ℕ) → (past node h).dead ≡ false → next_command s node h ≡ None) → Whole s h

-- no line of a node and no entry of it: no command
abbrev pub StrangersHaveNothing : Type 0
StrangersHaveNothing = (s : Script) (node : ℕ) (h : List Entry) → has_line node s ≡ false → list_any (is_of node) h ≡ false → next_command s node h ≡ None

-- no line of a node: no command, in any history of each node's commands in their order
abbrev pub OwnStrangers : Type 0
OwnStrangers = (s : Script) (node : ℕ) (h : List Entry) → has_line node s ≡ false → Own s h → next_command s node h ≡ None
