-- What the lines of a script spell together, and which line is the first that may not stand where it stands.
use Rattle.std.specs.Prelude.{◌≡◌, ◌==◌, ◌&&◌, ◌+◌, ◌++◌, ℕ, Bool, true, false, not, List, [], ◌∷◌, Option, Some, None, length, replicate, leb, if◌then◌else◌}
use Rattle.std.specs.List.{list_all}
use Rattle.plain_cat.specs.declared.script.Kill.{Kill}
use Rattle.plain_cat.specs.declared.script.Script.{Script}
use Rattle.run_script.specs.Grammar.{IsLineText}
use Rattle.run_script.specs.declared.items.Run.{Run}
use Rattle.run_script.specs.declared.items.Item.{Item}
use Rattle.run_script.specs.declared.items.Item.TheVariants.{Skipped, Nodes, Plays, Death, Command}

-- the plays of a schedule
abbrev pub plays_of : List Run → List ℕ
plays_of [] = []
plays_of (r ∷ rs) = replicate r.count r.node ++ plays_of rs

-- a node that is killed already
abbrev pub is_killed : ℕ → List Kill → Bool
is_killed node [] = false
is_killed node (k ∷ ks) = if k.node == node then true else is_killed node ks

-- where an item may stand, by what the lines before it spell: first the number of nodes, and then all else, about these nodes alone
abbrev pub may_stand : Option Script → Item → Bool
may_stand state Skipped = true
may_stand None (Nodes n) = true
may_stand (Some s) (Nodes n) = false
may_stand None (Plays rs) = false
may_stand (Some s) (Plays rs) = list_all (λ (r : Run). leb r.node s.nodes) rs
may_stand None (Death k) = false
may_stand (Some s) (Death k) = leb k.node s.nodes && not (is_killed k.node s.kills)
may_stand None (Command l) = false
may_stand (Some s) (Command l) = leb l.node s.nodes

-- the limits of a script: 4,096 commands and 65,536 plays
abbrev pub has_room : Option Script → Item → Bool
has_room (Some s) (Plays rs) = leb (length s.plays + length (plays_of rs)) 65536
has_room (Some s) (Command l) = leb (length s.lines + 1) 4096
has_room state item = true

-- what the lines spell with one more item
abbrev pub with_item : Option Script → Item → Option Script
with_item None (Nodes n) = Some (record { nodes = n; lines = []; plays = []; kills = [] })
with_item (Some s) (Plays rs) = Some (record s { plays = s.plays ++ plays_of rs })
with_item (Some s) (Death k) = Some (record s { kills = s.kills ++ k ∷ [] })
with_item (Some s) (Command l) = Some (record s { lines = s.lines ++ l ∷ [] })
with_item state item = state

-- these lines, behind lines that spell the one, spell the other with them: each may stand where it stands, and has room
abbrev pub Leads : Option Script → List (List ℕ) → Option Script → Type 0
Leads before [] after = before ≡ after
Leads before (l ∷ ls) after =
    (item : Item) × IsLineText item l × (may_stand before item ≡ true) × (has_room before item ≡ true) × Leads (with_item before item) ls after

-- lines spell a script
abbrev pub SpellsScript : List (List ℕ) → Script → Type 0
SpellsScript lines s = Leads None lines (Some s)

-- behind lines that spell this, the next one says nothing that may stand there, or is missing where none told the nodes
abbrev pub IsBadNext : Option Script → List (List ℕ) → Type 0
IsBadNext state [] = state ≡ None
IsBadNext state (l ∷ ls) = (item : Item) → IsLineText item l → may_stand state item ≡ true → ⊥

-- behind lines that spell this, the next one may stand there, and is one command or some plays too many
abbrev pub IsOverNext : Option Script → List (List ℕ) → Type 0
IsOverNext state [] = ⊥
IsOverNext state (l ∷ ls) = (item : Item) × IsLineText item l × (may_stand state item ≡ true) × (has_room state item ≡ false)

-- The line with this number, counted from 1, is the first bad one. Where no line tells the nodes, it is the one behind the last.
pub record IsBadLine (lines : List (List ℕ)) (n : ℕ) : Type 0 where
  pub front : List (List ℕ)
  pub rest : List (List ℕ)
  pub whole : lines ≡ front ++ rest
  pub state : Option Script
  pub led : Leads None front state
  pub bad : IsBadNext state rest
  pub number : n ≡ length front + 1

-- there is a line that has no room, and all lines in front of it are good
pub record IsTooMany (lines : List (List ℕ)) : Type 0 where
  pub front : List (List ℕ)
  pub rest : List (List ℕ)
  pub whole : lines ≡ front ++ rest
  pub state : Option Script
  pub led : Leads None front state
  pub over : IsOverNext state rest
