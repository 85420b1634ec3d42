-- What is read off a world after the turn of a node: where its counts rose that were marked before it.
use Rattle.std.specs.Prelude.{◌-◌, ◌++◌, ◌&&◌, not, ℕ, Bool, List, [], Option, Some, None, codes, decimal, length, nat_lt, slice_get, if◌then◌else◌}
use Rattle.base_words.specs.Fields.{Block}
use Rattle.lock_db.specs.declared.name.LockName.{LockName}
use Rattle.lock_db.specs.declared.name.LockName.TheVariants.{A}
use Rattle.lock_db.specs.declared.resource.Resource.{Resource}
use Rattle.plain_cat.specs.declared.mode.Mode.{Mode}
use Rattle.plain_cat.specs.declared.history.Entry.{Entry}
use Rattle.plain_cat.specs.declared.history.Entry.TheVariants.{Done}
use Rattle.node_locks.specs.Held.{waits_at}
use Rattle.plain_texts.specs.Reports.{stage_text}
use Rattle.op_law.specs.declared.need.Ask.{Ask as PlanAsk}
use Rattle.op_law.specs.declared.need.Plan.{Plan}
use Rattle.op_law.specs.declared.need.PlanWrite.{PlanWrite}
use Rattle.core_space.specs.declared.run.Phase.{Phase}
use Rattle.core_space.specs.declared.run.Phase.TheVariants as phase
use Rattle.core_state.specs.Worlds.{NodeState, Plain, node_at}
use Rattle.core_state.specs.Events.{count_of}
use Rattle.core_step.specs.declared.turns.Turn.{Turn}
use Rattle.core_step.specs.declared.turns.Turn.TheVariants as turn
use Rattle.core_step.specs.declared.turns.Kind.{Kind}
use Rattle.core_step.specs.declared.turns.Kind.TheVariants as kind
use Rattle.run_trace.specs.declared.marks.Mark.{Mark}
use Rattle.run_trace.specs.Texts.{lock_text, asked_text, answer_text, block_text, purpose_text, line_text}
use Rattle.run_trace.specs.Steps.{last_entry, dying_text}

-- how node n stands before a turn, in the table of locks: how many locks its command has asked for, how many blocks it has seen, how
-- many of its writes are done, and whether the lock that it has claimed stands in a queue
unfoldable pub mark_of : List Resource → ℕ → NodeState → Mark
mark_of t n s = record { asked = length s.asked; looked = length s.seen.blocks; done = s.done; claimed = waits_at t n s.claims }

-- a lock that was asked for, where there is one
abbrev pub asked_or : List Resource → ℕ → ℕ → Option (LockName × Mode) → List ℕ
asked_or t count n None = []
asked_or t count n (Some l) = asked_text t count n l

abbrev pub last_asked : List Resource → ℕ → ℕ → List (LockName × Mode) → List ℕ
last_asked t count n ls = asked_or t count n (slice_get ls (length ls - 1))

-- of a turn that took a lock: the last of its command's, if it asked for one more, and else the one that it has claimed
unfoldable pub locked_read : Mark → List Resource → ℕ → ℕ → NodeState → List ℕ
locked_read m t count n s = if nat_lt m.asked (length s.asked) then last_asked t count n s.asked else last_asked t count n s.claims

-- of one that waits: nothing, if it did before
unfoldable pub waiting_read : Mark → List Resource → ℕ → ℕ → NodeState → List ℕ
waiting_read m t count n s =
    if nat_lt m.asked (length s.asked) then last_asked t count n s.asked
    else if waits_at t n s.claims && not m.claimed then last_asked t count n s.claims else []

-- the last block that was looked at
abbrev pub block_or : List ℕ → List ℕ → Option (ℕ × Block) → List ℕ
block_or verb why None = []
block_or verb why (Some b) = block_text verb b.0 why

abbrev pub last_block : List ℕ → List ℕ → List (ℕ × Block) → List ℕ
last_block verb why bs = block_or verb why (slice_get bs (length bs - 1))

-- by its command, if that has seen one more, and else by its rules for space
unfoldable pub looked_read : List ℕ → Mark → NodeState → List ℕ
looked_read verb m s = if nat_lt m.looked (length s.seen.blocks) then last_block verb [] s.seen.blocks else last_block verb (codes " for space") s.run.looked

-- the last write that was made: of its plan, if one more is done, and else of its rules for space
abbrev pub plan_write : Option PlanWrite → List ℕ
plan_write None = []
plan_write (Some v) = block_text (codes "write ") v.lbn (codes ", stage " ++ stage_text v.stage)

abbrev pub space_write : Phase → Option PlanWrite → List ℕ
space_write p None = []
space_write p (Some v) = block_text (codes "write ") v.lbn (purpose_text p)

abbrev pub plan_writes : Option Plan → List PlanWrite
plan_writes None = []
plan_writes (Some p) = p.writes

unfoldable pub wrote_read : Mark → NodeState → List ℕ
wrote_read m s =
    if nat_lt m.done s.done then plan_write (slice_get (plan_writes s.plan) (s.done - 1))
    else space_write s.run.phase (slice_get s.run.writes (s.run.made - 1))

unfoldable pub lowered_read : Phase → List ℕ
lowered_read phase.Last = codes "too little found, V and X to NL"
lowered_read other = codes "stock filled, V to NL"

unfoldable pub planned_read : Option Plan → List ℕ
planned_read None = []
planned_read (Some p) = block_text (codes "plan of ") (length p.writes) (codes " writes")

abbrev pub ask_read : Option PlanAsk → List ℕ
ask_read None = []
ask_read (Some a) = codes "ask " ++ (lock_text (A a.file, a.mode) ++ codes " granted")

unfoldable pub tried_read : Option Plan → List ℕ
tried_read None = []
tried_read (Some p) = ask_read p.ask

-- the answer that is the last entry
unfoldable pub answer_read : Option Entry → List (LockName × Mode) → List ℕ
answer_read (Some (Done n cmd reply)) kept = answer_text cmd reply kept
answer_read other kept = []

unfoldable pub over_read : Bool → List ℕ
over_read over = if over then codes "leaves" else []

abbrev pub moved_read : Mark → Kind → List Resource → ℕ → ℕ → NodeState → List ℕ
moved_read m kind.Locked t count n s = locked_read m t count n s
moved_read m kind.Used t count n s = looked_read (codes "hit ") m s
moved_read m kind.Looked t count n s = looked_read (codes "read ") m s
moved_read m kind.Wrote t count n s = wrote_read m s
moved_read m kind.Lowered t count n s = lowered_read s.run.phase
moved_read m kind.Planned t count n s = planned_read s.plan
moved_read m kind.Tried t count n s = tried_read s.plan
moved_read m kind.Returned t count n s = codes "stock given back, V to NL, X back"

-- A turn of node n, one of so many, which stands as s behind it, of which this was told; behind it the locks are these, and this is the
-- last entry of the history.
unfoldable pub turn_read : Mark → Turn → List Resource → ℕ → Option Entry → ℕ → NodeState → List ℕ
turn_read m (turn.Moved k) t count last n s = moved_read m k t count n s
turn_read m turn.Waiting t count last n s = waiting_read m t count n s
turn_read m turn.Answered t count last n s = answer_read last s.kept
turn_read m turn.Over t count last n s = over_read s.over

-- and where there is such a node in the world after it
abbrev pub read_in : Mark → Turn → Plain → ℕ → Option NodeState → List ℕ
read_in m told x n None = []
read_in m told x n (Some s) = turn_read m told x.locks (length x.nodes) (last_entry x.history) n s

-- the line of a step, read off the world x after it
unfoldable pub own_read : ℕ → Plain → ℕ → Bool → Mark → Turn → List ℕ
own_read k x n dies m told =
    if dies then line_text k n (codes "-") (dying_text (last_entry x.history))
    else line_text k n (decimal (count_of (λ s. s.turns) x n)) (read_in m told x n (node_at x.nodes n))
