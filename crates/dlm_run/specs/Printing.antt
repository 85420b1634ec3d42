-- What is printed of each event.
use Rattle.std.specs.Prelude.{◌+◌, ◌++◌, ℕ, Bool, true, false, List, [], ◌∷◌, codes, decimal, get_or}
use Rattle.plain_cat.specs.declared.mode.Mode.{Mode}
use Rattle.lock_db.specs.declared.name.Owner.{Owner}
use Rattle.lock_db.specs.declared.name.LockName.{LockName}
use Rattle.lock_db.specs.declared.name.LockName.TheVariants.{S, A, Q, X, V}
use Rattle.plain_texts.specs.Names.{mode_text}
use Rattle.plain_texts.specs.Reports.{newline}
use Rattle.dlm_core.specs.declared.events.Event.{Event}
use Rattle.dlm_core.specs.declared.events.Told.{Told}
use Rattle.dlm_core.specs.declared.events.Told.TheVariants as told
use Rattle.dlm_core.specs.declared.rules.BlockRule.TheVariants.{OfAll}
use Rattle.dlm_core.specs.States.{State, start}
use Rattle.dlm_core.specs.Events.{after, told_of}
use Rattle.dlm_run.specs.Plays.{Play}

abbrev pub name_text : LockName → List ℕ
name_text (S n) = codes "S" ++ decimal n
name_text (A n) = codes "A" ++ decimal n
name_text Q = codes "Q"
name_text X = codes "X"
name_text V = codes "V"

abbrev pub mark_text : Bool → List ℕ
mark_text true = codes " valid"
mark_text false = codes " invalid"

-- an owner, a name and a mode, the first byte of the value block, and whether it is valid
abbrev pub lock_text : Owner → LockName → List ℕ
lock_text owner name = decimal owner.node ++ (codes " " ++ (decimal owner.part ++ (codes " " ++ name_text name)))

abbrev pub granted_text : Owner → LockName → Mode → ℕ → Bool → List ℕ
granted_text owner name mode fill valid =
    codes "granted " ++ (lock_text owner name ++ (codes " " ++ (mode_text mode ++ (codes " " ++ (decimal fill ++ mark_text valid)))))

-- the answer to an event
unfoldable pub told_text : Told → List ℕ
told_text told.Dead = codes "dead"
told_text told.Busy = codes "busy"
told_text told.NotHeld = codes "not held"
told_text told.BadConvert = codes "bad convert"
told_text told.Nothing = codes "nothing"
told_text told.Done = codes "done"
told_text (told.Granted owner name mode value valid) = granted_text owner name mode (get_or value 0 0) valid

-- the line of event number k
abbrev pub line_text : ℕ → Told → List ℕ
line_text k t = decimal k ++ (codes " " ++ (told_text t ++ newline))

-- the lines of events from number k on, played from this state
abbrev pub lines_text : ℕ → State → List Event → List ℕ
lines_text k s [] = []
lines_text k s (e ∷ es) = line_text k (told_of e s) ++ lines_text (k + 1) (after e s) es

abbrev pub run_text : Play → List ℕ
run_text s = lines_text 1 (start OfAll s.nodes) s.events
