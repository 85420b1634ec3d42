-- A node with a command under way, and the world's nodes.
use Rattle.std.specs.Prelude.{◌≡◌, ◌==◌, ℕ, Bool, true, List, [], ◌∷◌, ◌++◌, Option, Some, None, map, take, if◌then◌else◌}
use Rattle.base_words.specs.Fields.{Block}
use Rattle.lock_db.specs.declared.name.LockName.{LockName}
use Rattle.plain_cat.specs.declared.command.Cmd.{Cmd}
use Rattle.plain_cat.specs.declared.history.Stage.{Stage}
use Rattle.plain_cat.specs.declared.history.Stage.TheVariants as stage
use Rattle.plain_cat.specs.declared.cat.Cat.{Cat}
use Rattle.plain_rules.specs.Answers.{IsPick}
use Rattle.plain_rules.specs.Stages.{staged}
use Rattle.base_words.specs.Lists.{Has}
use Rattle.vol_spell.specs.Owners.{Things, nothing}

-- ---- plans

-- a write of a plan, with the stage at which the command stands after it, and what the command has outside then
pub record PlannedWrite : Type 0 where
  pub lbn : ℕ
  pub block : Block
  pub stage : Stage
  pub outs : Things

-- the writes alone
abbrev pub bare : List PlannedWrite → List (ℕ × Block)
bare ws = map (λ w. (w.lbn, w.block)) ws

-- the stage after these writes
abbrev pub stage_after : Stage → List PlannedWrite → Stage
stage_after s [] = s
stage_after s (w ∷ ws) = stage_after w.stage ws

-- what is outside after these writes
abbrev pub outs_after : Things → List PlannedWrite → Things
outs_after o [] = o
outs_after o (w ∷ ws) = outs_after w.outs ws

-- ---- a node

-- a node and what it has under way
pub record UnderWay : Type 0 where
  -- the locks that it holds in PR or more, and those that it holds in PW
  pub read : List LockName
  pub write : List LockName
  -- its command, if one has begun
  pub cmd : Option Cmd
  -- the blocks that it has seen for the command, each at its place
  pub seen : List (ℕ × Block)
  -- what it knows of the catalogue besides: what its channels have open, that no other has a file open, that sums fit
  pub knows : Cat → Bool
  -- what the command has outside before its first write
  pub took : Things
  -- the writes that it has decided on, and how many of them are done
  pub plan : List PlannedWrite
  pub done : ℕ
  -- what the node has outside besides
  pub stock : Things

-- the stage before the first write
abbrev pub first_stage : Option Cmd → Stage
first_stage None = stage.Idle
first_stage (Some cmd) = stage.Nothing

-- the first k writes, the stage after them, and what the command has outside then
abbrev pub writes_to : ℕ → UnderWay → List (ℕ × Block)
writes_to k u = bare (take k u.plan)

abbrev pub stage_at : ℕ → UnderWay → Stage
stage_at k u = stage_after (first_stage u.cmd) (take k u.plan)

abbrev pub outs_at : ℕ → UnderWay → Things
outs_at k u = outs_after u.took (take k u.plan)

-- the things of both
abbrev pub together : Things → Things → Things
together a b = record { clusters = a.clusters ++ b.clusters; numbers = a.numbers ++ b.numbers }

-- all that a node has outside, after the writes done
abbrev pub all_out : UnderWay → Things
all_out u = together (outs_at u.done u) u.stock

-- a node that has no command, nothing seen and no lock, with this stock
abbrev pub resting : Things → UnderWay
resting stock = record { read = []; write = []; cmd = None; seen = []; knows = λ c. true; took = nothing; plan = []; done = 0; stock = stock }

-- the node without its command: what the command still had outside is stock
abbrev pub idle : UnderWay → UnderWay
idle u = resting (all_out u)

-- ---- the nodes

-- node n is now u
abbrev pub changed : (ℕ → UnderWay) → ℕ → UnderWay → ℕ → UnderWay
changed nodes n u m = if m == n then u else nodes m

-- a lock that a node holds in PW no other node holds in PW, nor in PR or more
pub record AreSole (nodes : ℕ → UnderWay) : Type 0 where
  pub writers : (n m : ℕ) (name : LockName) → Has (nodes n).write name → Has (nodes m).write name → n ≡ m
  pub readers : (n m : ℕ) (name : LockName) → Has (nodes n).write name → Has (nodes m).read name → n ≡ m

-- the catalogue d where node n stopped at a stage of its command, for some number that a new file would take
abbrev pub StandsAt : Cat → ℕ → Option Cmd → Stage → Cat → Type 0
StandsAt c n cmd s d = (new : Option ℕ) × IsPick c new × (staged c n cmd s new ≡ Some d)
