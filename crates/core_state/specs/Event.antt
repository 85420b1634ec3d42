-- The events of a node's turn.
use Rattle.std.specs.Prelude.{ℕ, Bool}
use Rattle.lock_db.specs.declared.name.LockName.{LockName}
use Rattle.plain_cat.specs.declared.mode.Mode.{Mode}
use Rattle.plain_cat.specs.declared.command.Cmd.{Cmd}
use Rattle.plain_cat.specs.declared.reply.Reply.{Reply}
use Rattle.core_space.specs.declared.run.Phase.{Phase}
use Rattle.op_law.specs.declared.need.Plan.{Plan as CmdPlan}
use Rattle.op_law.specs.declared.need.PlanWrite.{PlanWrite}
use Rattle.op_law.specs.declared.need.Ask.{Ask as PlanAsk}

-- what a node does in a turn
pub data Event : Type 0 where
  -- the node is over
  Rest : Event
  -- its request stands in a queue still
  Stand : Event
  -- its script is done, and it leaves the volume
  Leave : Event
  -- its command asks for a lock
  Lock : LockName → Mode → Event
  -- its command looks at a block that the lock of this name guards, and reads it from the drive
  Look : LockName → ℕ → Event
  -- or it uses the block that the node has cached
  Use : LockName → ℕ → Event
  -- its command looks at a file's own block
  Fetch : ℕ → Event
  -- by its rules for space, which go on in this phase, it asks for X or for V
  Claim : Phase → LockName → Mode → Event
  -- by its rules for space, for so many clusters and a number or none, it looks at a bitmap block, and reads it from the drive
  SpaceLook : ℕ → Bool → ℕ → Event
  -- or it uses the block that the node has cached
  SpaceUse : ℕ → Bool → ℕ → Event
  -- it makes the next write that its rules for space have decided on
  SpaceWrite : PlanWrite → Event
  -- its stock is filled, and it lowers V
  LowerV : Event
  -- too little was found and its stock is given back: it lowers V and X, to have X in EX
  LowerX : Event
  -- its stock is given back for good: it lowers V, and gives X back
  Return : Event
  -- its rules for space have come to an end, which was taken over with their last look or before: so this does not come
  SpaceEnd : Event
  -- its command decides on a plan
  Plan : CmdPlan → Event
  -- it makes the next write of its plan
  Write : PlanWrite → Event
  -- behind the writes before it, it asks without waiting: where the ask is granted it goes on, and else it answers
  Ask : Cmd → PlanAsk → Event
  -- it answers
  Answer : Cmd → Reply → Event
