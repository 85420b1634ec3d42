-- What a node has outside files and bitmaps, by the last of its writes done.
use Rattle.std.specs.Prelude.{◌==◌, ◌+◌, ◌-◌, ◌||◌, ◌≡◌, ◌<◌, ◌^◌, ℕ, zero, suc, Bool, false, List, Option, Some, None, slice_get, length, if◌then◌else◌}
use Rattle.std.specs.List.{list_any}
use Rattle.plain_cat.specs.declared.history.Stage.{Stage}
use Rattle.plain_cat.specs.declared.history.Entry.{Entry}
use Rattle.plain_cat.specs.declared.history.Entry.TheVariants.{Died}
use Rattle.vol_under.specs.UnderWay.{first_stage}
use Rattle.op_law.specs.declared.need.Plan.{Plan}
use Rattle.op_law.specs.declared.need.PlanWrite.{PlanWrite}
use Rattle.op_law.specs.declared.seen.Seen.{Seen}
use Rattle.core_space.specs.declared.run.Phase.{Phase}
use Rattle.core_space.specs.declared.run.Phase.TheVariants as phase
use Rattle.core_space.specs.declared.run.SpaceRun.{SpaceRun}
use Rattle.core_state.specs.Worlds.{NodeState}
use Rattle.core_state.specs.Deaths.{numbers_that, death_of}

-- the last of the first k writes
abbrev pub last_of : List PlanWrite → ℕ → Option PlanWrite
last_of ws zero = None
last_of ws (suc k) = slice_get ws k

abbrev pub last_in : Option Plan → ℕ → Option PlanWrite
last_in None k = None
last_in (Some p) k = last_of p.writes k

-- the stage after this write, or this one where there is none
abbrev pub stage_or : Option PlanWrite → Stage → Stage
stage_or None s = s
stage_or (Some w) s = w.stage

-- how many clusters are outside after this write, or were seen where there is none
abbrev pub clusters_or : Option PlanWrite → Seen → ℕ
clusters_or None seen = length seen.clusters
clusters_or (Some w) seen = length w.clusters

-- the last of the writes of its rules for space that are made, where they are not all
abbrev pub taken_by : SpaceRun → Option PlanWrite
taken_by run = if run.made == length run.writes then None else last_of run.writes run.made

-- how many clusters are taken with this write, in this phase: a give-back takes nothing
abbrev pub clusters_taken : Phase → PlanWrite → ℕ
clusters_taken phase.Fill w = length w.clusters
clusters_taken phase.Last w = length w.clusters
clusters_taken other w = 0

abbrev pub clusters_by : Phase → Option PlanWrite → ℕ
clusters_by p None = 0
clusters_by p (Some w) = clusters_taken p w

-- a number is this one, where 0 counts as 1
abbrev pub is_number : ℕ → ℕ → Bool
is_number n i = i - 1 + 1 == n

abbrev pub is_this : ℕ → Option ℕ → Bool
is_this n None = false
is_this n (Some i) = is_number n i

-- it is outside after this write, or was seen where there is none
abbrev pub number_or : ℕ → Option PlanWrite → Seen → Bool
number_or n None seen = is_this n seen.number
number_or n (Some w) seen = list_any (is_number n) w.numbers || is_this n w.number

-- it is taken with this write, in this phase: a filling takes many, the search of all free space takes one
abbrev pub number_taken : ℕ → Phase → PlanWrite → Bool
number_taken n phase.Fill w = list_any (is_number n) w.numbers
number_taken n phase.Last w = is_this n w.number
number_taken n other w = false

abbrev pub number_by : ℕ → Phase → Option PlanWrite → Bool
number_by n p None = false
number_by n p (Some w) = number_taken n p w

-- of a node
abbrev pub stage_told : NodeState → Stage
stage_told s = stage_or (last_in s.plan s.done) (first_stage s.cmd)

-- what its command has outside, its stock, and what its rules for space have taken
abbrev pub clusters_told : NodeState → ℕ
clusters_told s = clusters_or (last_in s.plan s.done) s.seen + (length s.stock.clusters + clusters_by s.run.phase (taken_by s.run))

abbrev pub number_told : NodeState → ℕ → Bool
number_told s n = (number_or n (last_in s.plan s.done) s.seen || list_any (is_number n) s.stock.numbers) || number_by n s.run.phase (taken_by s.run)

-- the entry of its death, as it is told
abbrev pub death_told : ℕ → NodeState → Entry
death_told n s = Died n (stage_told s) (clusters_told s) (record { items = numbers_that (number_told s) 4096; room = 0 })

-- it can be told so
pub record CanDie (n : ℕ) (s : NodeState) : Type 0 where
  pub told : death_told n s ≡ death_of n s
  pub few : clusters_told s < 2 ^ 32
