-- What the lines of a script of events say.
use Rattle.std.specs.Prelude.{◌≡◌, ◌==◌, ◌&&◌, ◌+◌, ◌++◌, ℕ, Bool, List, [], ◌∷◌, Option, Some, None, Result, Ok, Err, codes, leb, length, if◌then◌else◌}
use Rattle.std.specs.Str.{bytes_eq}
use Rattle.plain_cat.specs.declared.mode.Mode.{Mode}
use Rattle.plain_cat.specs.declared.mode.Mode.TheVariants.{NL, CR, CW, PR, PW, EX}
use Rattle.lock_db.specs.declared.name.LockName.{LockName}
use Rattle.lock_db.specs.declared.name.LockName.TheVariants.{S, A, Q, X, V}
use Rattle.lock_db.specs.declared.name.Owner.{Owner}
use Rattle.run_script.specs.Lines.{lines_of, words_of}
use Rattle.run_script.specs.Steps.{part_of, number_of, behind, with1, with2, with3, with4}
use Rattle.run_script.specs.Grammar.{is_skipped}
use Rattle.dlm_core.specs.declared.events.Event.{Event}
use Rattle.dlm_core.specs.declared.events.Event.TheVariants as event
use Rattle.dlm_run.specs.Plays.{Play}
use Rattle.dlm_run.specs.declared.script.Fault.{Fault}
use Rattle.dlm_run.specs.declared.script.Fault.TheVariants.{BadLine, TooMany}
use Rattle.dlm_run.specs.declared.reading.ReadFault.{ReadFault}
use Rattle.dlm_run.specs.declared.reading.ReadFault.TheVariants as read_fault

-- the word with this number, counted from 0
abbrev pub word_at : ℕ → List ℕ → List ℕ
word_at n line = part_of 32 n line

-- a decimal number within these limits, without a sign or a leading zero
abbrev pub decimal_of : ℕ → ℕ → List ℕ → Option ℕ
decimal_of low high word = number_of 10 low high word

-- a lock mode
unfoldable pub mode_of : List ℕ → Option Mode
mode_of word =
    if bytes_eq word (codes "NL") then Some NL else (if bytes_eq word (codes "CR") then Some CR else (if bytes_eq word (codes "CW") then Some CW else
    (if bytes_eq word (codes "PR") then Some PR else (if bytes_eq word (codes "PW") then Some PW else (if bytes_eq word (codes "EX") then Some EX else None)))))

-- a name with a number, by what stands behind an S or behind an A
abbrev pub filed_of : Option (List ℕ) → Option (List ℕ) → Option LockName
filed_of (Some digits) a = with1 (decimal_of 1 4096 digits) S
filed_of None (Some digits) = with1 (decimal_of 1 4096 digits) A
filed_of None None = None

-- the name of a resource
unfoldable pub name_of : List ℕ → Option LockName
name_of word =
    if bytes_eq word (codes "Q") then Some Q else (if bytes_eq word (codes "X") then Some X else
    (if bytes_eq word (codes "V") then Some V else filed_of (behind 83 word) (behind 65 word)))

-- an owner, by the node and the part
unfoldable pub owner_of : ℕ → List ℕ → Option Owner
owner_of nodes line = with2 (decimal_of 1 nodes (word_at 1 line)) (decimal_of 0 8 (word_at 2 line)) (λ node part. record { node = node; part = part })

-- a line of so many words of which the first is this one
unfoldable pub has_form : ℕ → List ℕ → List ℕ → Bool
has_form n first line = length (words_of line) == n && bytes_eq (word_at 0 line) first

-- how many nodes there are
unfoldable pub nodes_of : List ℕ → Option ℕ
nodes_of line = if has_form 2 (codes "NODES") line then decimal_of 1 8 (word_at 1 line) else None

-- an event on these nodes
unfoldable pub ask_of : ℕ → List ℕ → Option Event
ask_of nodes line = with4 (owner_of nodes line) (name_of (word_at 3 line)) (mode_of (word_at 4 line)) (decimal_of 0 255 (word_at 5 line)) event.Ask

unfoldable pub drop_of : ℕ → List ℕ → Option Event
drop_of nodes line = with3 (owner_of nodes line) (name_of (word_at 3 line)) (decimal_of 0 255 (word_at 4 line)) event.Drop

unfoldable pub pass_of : ℕ → List ℕ → Option Event
pass_of nodes line = with2 (decimal_of 1 nodes (word_at 1 line)) (decimal_of 1 nodes (word_at 2 line)) event.Pass

unfoldable pub kill_of : ℕ → List ℕ → Option Event
kill_of nodes line = with1 (decimal_of 1 nodes (word_at 1 line)) event.Kill

unfoldable pub event_of : ℕ → List ℕ → Option Event
event_of nodes line =
    if has_form 6 (codes "ASK") line then ask_of nodes line else (if has_form 5 (codes "DROP") line then drop_of nodes line else
    (if has_form 3 (codes "PASS") line then pass_of nodes line else (if has_form 2 (codes "KILL") line then kill_of nodes line else None)))

-- a script so far: how many nodes there are, once a line tells it, and the events
pub record Begun : Type 0 where
  pub nodes : Option ℕ
  pub events : List Event

-- one more event, of which there are 4,096 at most
abbrev pub with_event : Option Event → ℕ → ℕ → List Event → Result Begun Fault
with_event None at nodes es = Err (BadLine at)
with_event (Some e) at nodes es = if leb 4096 (length es) then Err TooMany else Ok (record { nodes = Some nodes; events = es ++ e ∷ [] })

abbrev pub with_nodes : Option ℕ → ℕ → Result Begun Fault
with_nodes None at = Err (BadLine at)
with_nodes (Some n) at = Ok (record { nodes = Some n; events = [] })

-- one more line: the first that is not skipped tells the nodes, and each other one an event
abbrev pub line_taken : Option ℕ → ℕ → List ℕ → List Event → Result Begun Fault
line_taken None at line es = with_nodes (nodes_of line) at
line_taken (Some n) at line es = with_event (event_of n line) at n es

unfoldable pub taken_line : ℕ → List ℕ → Begun → Result Begun Fault
taken_line at line b = if is_skipped line then Ok b else line_taken b.nodes at line b.events

-- the script at its end: where no line tells the nodes, the one behind the last is bad
abbrev pub ended_at : ℕ → Option ℕ → List Event → Result Play Fault
ended_at at None es = Err (BadLine at)
ended_at at (Some n) es = Ok (record { nodes = n; events = es })

-- what the lines say, from line number `at` on: the script, or the first fault in their order
abbrev pub then_read : Result Begun Fault → (Begun → Result Play Fault) → Result Play Fault
then_read (Ok b) f = f b
then_read (Err e) f = Err e

abbrev pub read_from : ℕ → List (List ℕ) → Begun → Result Play Fault
read_from at [] b = ended_at at b.nodes b.events
read_from at (line ∷ lines) b = then_read (taken_line at line b) (read_from (at + 1) lines)

abbrev pub nothing_read : Begun
nothing_read = record { nodes = None; events = [] }

abbrev pub script_of : List ℕ → Result Play Fault
script_of bytes = read_from 1 (lines_of bytes) nothing_read

-- a call answers this, or nothing is said where memory ran out
abbrev pub Agrees : {A : Type 0} → Result A Fault → Result A ReadFault → Type 0
Agrees given (Ok v) = given ≡ Ok v
Agrees given (Err (read_fault.Bad f)) = given ≡ Err f
Agrees given (Err read_fault.NoMemory) = Unit {0}
