-- The death of a node, and when a script kills it.
use Rattle.std.specs.Prelude.{◌==◌, ◌+◌, ◌++◌, ◌&&◌, not, take, ℕ, Bool, true, false, List, [], ◌∷◌, Option, Some, None, length, map, filter, replicate, if◌then◌else◌}
use Rattle.std.specs.List.{list_any, range_with_len}
use Rattle.lock_db.specs.Tables.{dropped}
use Rattle.plain_cat.specs.declared.history.Stage.{Stage}
use Rattle.plain_cat.specs.declared.history.Entry.{Entry}
use Rattle.plain_cat.specs.declared.history.Entry.TheVariants.{Died}
use Rattle.plain_cat.specs.declared.script.KillAt.{KillAt}
use Rattle.plain_cat.specs.declared.script.KillAt.TheVariants as kill
use Rattle.plain_cat.specs.declared.script.Kill.{Kill}
use Rattle.vol_spell.specs.Owners.{Things}
use Rattle.vol_under.specs.UnderWay.{PlannedWrite, first_stage, stage_after, outs_after, together}
use Rattle.op_law.specs.Fits.{things}
use Rattle.op_law.specs.Laws.{planned}
use Rattle.core_space.specs.Rule.{no_run}
use Rattle.core_state.specs.Worlds.{empty_stock, NodeState, Plain, node_at, with_node}
use Rattle.core_state.specs.Asks.{writes_now}
use Rattle.core_state.specs.Stocks.{stock_now}
use Rattle.core_state.specs.Event.{Event}
use Rattle.core_state.specs.Events.{is_write, next_event, unseen, after_turn, is_over}

-- ---- how a node stands

-- the writes of its plan that are done
abbrev pub writes_done : NodeState → List PlannedWrite
writes_done s = take s.done (map planned (writes_now s.tried s.plan))

-- the stage of its command: that of the last of these
abbrev pub stage_now : NodeState → Stage
stage_now s = stage_after (first_stage s.cmd) (writes_done s)

-- All that a node has outside files and bitmaps: what its command has behind the writes done, and its stock with what its rules for
-- space have taken.
abbrev pub outside_now : NodeState → Things
outside_now s = together (outs_after (things s.seen.clusters s.seen.number) (writes_done s)) (stock_now s.stock s.run)

-- ---- a death

-- a file number is among these things, where a number stands as one less
abbrev pub has_number : Things → ℕ → Bool
has_number t n = list_any (λ i. i + 1 == n) t.numbers

-- the numbers from 1 to this one that pass a test, in rising order
unfoldable pub numbers_that : (ℕ → Bool) → ℕ → List ℕ
numbers_that p last = filter p (range_with_len 1 last)

-- the file numbers among these things: a volume has at most 4,096
abbrev pub numbers_of : Things → List ℕ
numbers_of t = numbers_that (has_number t) 4096

-- the entry of the death of node n: the stage of its command, and what it has outside, which is leaked
abbrev pub death_of : ℕ → NodeState → Entry
death_of n s = Died n (stage_now s) (length (outside_now s).clusters) (record { items = numbers_of (outside_now s); room = 0 })

-- a node that is dead has nothing any more: no command, no lock, no open, no stock and no cached block
abbrev pub gone : NodeState → NodeState
gone s = record s {
  past = record s.past { dead = true };
  cmd = None;
  seen = unseen s.seen;
  plan = None;
  done = 0;
  tried = false;
  asked = [];
  kept = [];
  claims = [];
  opens = replicate 8 None;
  run = no_run;
  stock = empty_stock;
  cache = [];
}

-- Node n, which stands as s, dies: its death is the last entry of the history, and all its locks and requests are gone. The drive is
-- left as it is.
abbrev pub died_by : Plain → ℕ → NodeState → Plain
died_by w n s = with_node (record w { history = w.history ++ death_of n s ∷ []; locks = dropped n w.locks }) n (gone s)

abbrev pub died_at : Plain → ℕ → Option NodeState → Plain
died_at w n None = w
died_at w n (Some s) = died_by w n s

abbrev pub died : Plain → ℕ → Plain
died w n = died_at w n (node_at w.nodes n)

-- ---- the kills of a script

-- a kill comes in place of this turn of a node: the turn of that number since mounting, or the one that would make so many block writes
abbrev pub comes_at : KillAt → NodeState → Event → Bool
comes_at (kill.Turn t) s e = s.turns + 1 == t
comes_at (kill.Write k) s e = (s.writes + 1 == k) && is_write e

abbrev pub kills : Plain → ℕ → NodeState → Kill → Bool
kills w n s k = (k.node == n) && comes_at k.at s (next_event w n)

abbrev pub kills_at : Plain → ℕ → Option NodeState → Bool
kills_at w n None = false
kills_at w n (Some s) = list_any (kills w n s) w.script.kills

-- the script kills node n in place of its next turn
abbrev pub is_due : Plain → ℕ → Bool
is_due w n = not (is_over w n) && kills_at w n (node_at w.nodes n)

-- the world after the next step of node n: the turn, or the death in its place
abbrev pub after_step : Plain → ℕ → Plain
after_step w n = if is_due w n then died w n else after_turn w n
