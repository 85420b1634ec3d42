-- The lines of a run: for each step of its walk that of its event, and one for each wait that it has ended.
use Rattle.std.specs.Prelude.{◌-◌, ◌+◌, ◌++◌, ◌||◌, ℕ, zero, suc, Bool, false, List, [], ◌∷◌, Option, Some, None, codes, decimal, flat_map, length, slice_get, if◌then◌else◌}
use Rattle.lock_db.specs.declared.name.LockName.{LockName}
use Rattle.plain_cat.specs.declared.mode.Mode.{Mode}
use Rattle.plain_cat.specs.declared.history.Entry.{Entry}
use Rattle.node_locks.specs.Held.{waits_at}
use Rattle.core_state.specs.Worlds.{NodeState, Plain, node_at}
use Rattle.core_state.specs.Event.{Event}
use Rattle.core_state.specs.Events.{is_over, next_event, after_turn, count_of}
use Rattle.core_state.specs.Deaths.{is_due, died, after_step}
use Rattle.run_engine.specs.Walks.{after_play, played, next_from, Rotation, rotation}
use Rattle.run_trace.specs.declared.waits.Wait.{Wait}
use Rattle.run_trace.specs.declared.waits.Wait.TheVariants as wait
use Rattle.run_trace.specs.Texts.{lock_text, death_text, event_text, line_text}

-- ---- the event of a step

-- the event of node n, in the world after it
abbrev pub turn_in : Plain → ℕ → Event → Option NodeState → List ℕ
turn_in x n e None = []
turn_in x n e (Some s) = event_text x.locks (length x.nodes) n s e

unfoldable pub turn_text : Plain → ℕ → List ℕ
turn_text w n = turn_in (after_turn w n) n (next_event w n) (node_at (after_turn w n).nodes n)

-- the last of these entries
abbrev pub last_entry : List Entry → Option Entry
last_entry h = slice_get h (length h - 1)

abbrev pub dying_text : Option Entry → List ℕ
dying_text None = []
dying_text (Some e) = death_text e

-- the line of step k, in which node n makes its turn, or dies in its place
unfoldable pub own_text : ℕ → Plain → ℕ → List ℕ
own_text k w n =
    if is_due w n then line_text k n (codes "-") (dying_text (last_entry (died w n).history))
    else line_text k n (decimal (count_of (λ s. s.turns) (after_turn w n) n)) (turn_text w n)

-- ---- waits that it has ended

-- the locks that a node has asked for by its rules for space, or for its command
abbrev pub row_by : Wait → NodeState → List (LockName × Mode)
row_by wait.Space s = s.claims
row_by wait.Command s = s.asked

-- the last of them stands in a queue
abbrev pub waits_in : Plain → Wait → ℕ → Option NodeState → Bool
waits_in w by n None = false
waits_in w by n (Some s) = waits_at w.locks n (row_by by s)

unfoldable pub waits_now : Plain → Wait → ℕ → Bool
waits_now w by n = waits_in w by n (node_at w.nodes n)

-- the nodes up to this one that wait so
unfoldable pub waiting_to : Plain → Wait → ℕ → List ℕ
waiting_to w by zero = []
waiting_to w by (suc n) = if waits_now w by (suc n) then waiting_to w by n ++ suc n ∷ [] else waiting_to w by n

-- the last lock of a row was granted
abbrev pub grant_of : Option (LockName × Mode) → List ℕ
grant_of None = []
grant_of (Some l) = codes "granted " ++ lock_text l

abbrev pub granted_row : List (LockName × Mode) → List ℕ
granted_row ls = grant_of (slice_get ls (length ls - 1))

abbrev pub granted_in : Wait → Option NodeState → List ℕ
granted_in by None = []
granted_in by (Some s) = granted_row (row_by by s)

-- Node n has waited. In the world after the step it does no more, and it has not died: its line says so.
unfoldable pub grant_text : ℕ → Plain → Wait → ℕ → List ℕ
grant_text k x by n = if waits_now x by n || is_over x n then [] else line_text k n (codes "-") (granted_in by (node_at x.nodes n))

-- the lines of all that have waited before step k
unfoldable pub grants_text : ℕ → Plain → Plain → List ℕ
grants_text k w x =
    flat_map (grant_text k x wait.Space) (waiting_to w wait.Space (length w.nodes))
    ++ flat_map (grant_text k x wait.Command) (waiting_to w wait.Command (length w.nodes))

-- ---- steps

-- the lines of step k, in which node n makes its turn, or dies in its place
unfoldable pub step_text : ℕ → Plain → ℕ → List ℕ
step_text k w n = own_text k w n ++ grants_text k w (after_step w n)

-- a play of a node that is over makes no step
unfoldable pub play_text : ℕ → Plain → ℕ → List ℕ
play_text k w n = if is_over w n then [] else step_text k w n

-- these plays, of which the first has the number k
unfoldable pub plays_text : ℕ → List ℕ → Plain → List ℕ
plays_text k [] w = []
plays_text k (n ∷ ns) w = play_text k w n ++ plays_text (k + 1) ns (after_play w n)

-- the next turn in rotation, with the number k
abbrev pub next_text : ℕ → Plain → Option ℕ → List ℕ
next_text k w None = []
next_text k w (Some n) = step_text k w n

unfoldable pub rotated_text : ℕ → Rotation → List ℕ
rotated_text k r = next_text k r.world (next_from r.world r.from)

-- so many turns in rotation, of which the first has the number k
unfoldable pub turns_text : ℕ → ℕ → Rotation → List ℕ
turns_text k zero r = []
turns_text k (suc t) r = turns_text k t r ++ rotated_text (k + t) (rotation t r)

-- The lines of a walk: one step for each play, and then so many turns in rotation from node 1. The steps are numbered from 1.
unfoldable pub walk_text : List ℕ → ℕ → Plain → List ℕ
walk_text plays turns w = plays_text 1 plays w ++ turns_text (length plays + 1) turns (record { world = played plays w; from = 1 })
