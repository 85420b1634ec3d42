-- What the nodes of a world have left to do.
use Rattle.std.specs.Prelude.{◌≡◌, ◌≢◌, ◌⊎◌, ◌≤◌, ◌<◌, ◌+◌, ◌-◌, ◌*◌, ◌&&◌, not, min, nat_lt, ℕ, suc, Bool, true, false, List, [], ◌∷◌, Option, Some, None, length, filter, if◌then◌else◌}
use Rattle.base_words.specs.Fields.{Block}
use Rattle.lock_db.specs.Names.{is_same}
use Rattle.lock_db.specs.declared.name.LockName.TheVariants.{X, V}
use Rattle.plain_cat.specs.declared.script.Script.{Script}
use Rattle.plain_rules.specs.Lookups.{file_most}
use Rattle.plain_rules.specs.Own.{lines_of}
use Rattle.vol_parts.specs.declared.geometry.Geometry.{Geometry}
use Rattle.vol_parts.specs.declared.geometry.Part.TheVariants.{IndexBitmap}
use Rattle.vol_spell.specs.Places.{place_of}
use Rattle.node_locks.specs.Held.{Row}
use Rattle.op_law.specs.declared.need.Plan.{Plan}
use Rattle.op_law.specs.declared.need.PlanWrite.{PlanWrite}
use Rattle.core_space.specs.declared.run.Phase.{Phase}
use Rattle.core_space.specs.declared.run.Phase.TheVariants as phase
use Rattle.core_space.specs.declared.run.SpaceRun.{SpaceRun}
use Rattle.core_space.specs.Giving.{is_seen, is_wanting, storage_range}
use Rattle.core_space.specs.Rule.{is_reader}
use Rattle.core_state.specs.Worlds.{Stock, NodeState, Plain}
use Rattle.core_state.specs.Goods.{Good}
use Rattle.core_state.specs.Event.{Stand}
use Rattle.core_state.specs.Events.{mode_in, is_out, next_event, after_turn, is_over}
use Rattle.core_state.specs.Deaths.{is_due, after_step}
use Rattle.core_state.specs.Ends.{GoesLawfully}

abbrev pub one_if : Bool → ℕ
one_if true = 1
one_if false = 0

-- the events of a command since its plan was made
abbrev pub plan_steps : Option Plan → ℕ → Bool → ℕ
plan_steps None done tried = 0
plan_steps (Some p) done tried = 1 + (done + one_if tried)

-- ---- the rules for space

-- the blocks at which a give-back of this stock looks still
abbrev pub looks_left : Geometry → Stock → List (ℕ × Block) → ℕ
looks_left g stock looked = one_if (nat_lt 0 (length stock.numbers) && not (is_seen looked (place_of g IndexBitmap))) + length (filter (is_wanting g stock.clusters looked) (storage_range g))

-- what it has left: looks, and then writes
abbrev pub give_left_by : Geometry → Stock → SpaceRun → List PlanWrite → ℕ
give_left_by g stock run [] = 18 + looks_left g stock run.looked
give_left_by g stock run (v ∷ ws) = length run.writes - run.made

abbrev pub give_left : Geometry → Stock → SpaceRun → ℕ
give_left g stock run = give_left_by g stock run run.writes

-- by what the rules have claimed last: nothing, X, or V
abbrev pub by_claim : Row → ℕ → ℕ → ℕ → ℕ
by_claim [] none x v = none
by_claim (l ∷ ls) none x v = if is_same l.0 V then v else x

-- how far the rules have come for the command under way
abbrev pub rule_steps : Geometry → Stock → Row → SpaceRun → Phase → ℕ
rule_steps g stock claims run phase.Off = 0
rule_steps g stock claims run phase.Fill = by_claim claims 200 1 (130 + min 60 (length run.looked + run.made))
rule_steps g stock claims run phase.Drain = 300 + (60 - give_left g stock run)
rule_steps g stock claims run phase.Last = by_claim claims 400 401 (402 + min 60 (length run.looked + run.made))
rule_steps g stock claims run phase.Back = 0

-- what a give-back for good has left: it may come while X is kept in CR
abbrev pub return_by : Geometry → Stock → SpaceRun → Phase → ℕ
return_by g stock run phase.Back = 1 + min 60 (give_left g stock run)
return_by g stock run other = 80

abbrev pub return_left : Geometry → Stock → Row → SpaceRun → ℕ
return_left g stock kept run = if is_reader (mode_in X kept) then return_by g stock run run.phase else 0

-- ---- a node

-- the events of the command under way
abbrev pub steps_of : NodeState → ℕ
steps_of s = length s.asked + (length s.seen.blocks + (rule_steps s.seen.geometry s.stock s.claims s.run s.run.phase + plan_steps s.plan s.done s.tried))

-- Above all events of a command: a WRITE has the most writes, up to one zero fewer than a file has blocks, the block, and the header.
abbrev pub command_steps : ℕ
command_steps = 16 * file_most + 768

-- so many answers are left, of lines and of closes behind them, and the leaving
abbrev pub answers_left : ℕ → ℕ → ℕ
answers_left lines answered = command_steps * (lines - answered) + (192 * (8 - (answered - lines)) + 1)

abbrev pub rest_of : Script → ℕ → NodeState → ℕ
rest_of script n s = answers_left (length (lines_of n script.lines)) s.past.answered

abbrev pub left_in : Script → ℕ → NodeState → ℕ
left_in script n s = if is_out s then 0 else ((rest_of script n s - steps_of s) + return_left s.seen.geometry s.stock s.kept s.run)

-- ---- all nodes

abbrev pub left_from : Script → ℕ → List NodeState → ℕ
left_from script n [] = 0
left_from script n (s ∷ ss) = left_in script n s + left_from script (suc n) ss

abbrev pub left : Plain → ℕ
left w = left_from w.script 1 w.nodes

-- whatever a node's turn makes, but that it waits, less is left
abbrev pub TurnsLeaveLess : Type 0
TurnsLeaveLess = (w : Plain) (n : ℕ) → Good w → GoesLawfully w n → is_over w n ≡ false → next_event w n ≢ Stand → left (after_turn w n) < left w

-- the next step of a node is its death, or a turn that does not only wait
abbrev pub Changes : Plain → ℕ → Type 0
Changes w n = (is_due w n ≡ true) ⊎ (next_event w n ≢ Stand)

abbrev pub StepsLeaveLess : Type 0
StepsLeaveLess = (w : Plain) (n : ℕ) → Good w → Good (after_step w n) → is_over w n ≡ false → Changes w n → left (after_step w n) < left w

abbrev pub StepsLeaveNoMore : Type 0
StepsLeaveNoMore = (w : Plain) (n : ℕ) → Good w → Good (after_step w n) → is_over w n ≡ false → left (after_step w n) ≤ left w

-- there is something left while a node is not over
abbrev pub SomeIsLeft : Type 0
SomeIsLeft = (w : Plain) (n : ℕ) → Good w → is_over w n ≡ false → 0 < left w

-- and never more than this
abbrev pub LittleIsLeft : Type 0
LittleIsLeft = (w : Plain) → left w + length w.nodes ≤ command_steps * (length w.script.lines + length w.nodes)
