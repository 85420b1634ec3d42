-- When the locks of a node can be given back one after the other.
use Rattle.std.specs.Prelude.{◌≡◌, ◌<◌, ◌≤◌, ◌+◌, List, [], ◌∷◌, ℕ, true, Option, Some, None, IsSome, length}
use Rattle.lock_db.specs.declared.name.LockName.{LockName}
use Rattle.lock_db.specs.declared.name.LockName.TheVariants.{A}
use Rattle.lock_db.specs.declared.resource.Resource.{Resource}
use Rattle.lock_db.specs.Queues.{lock_of}
use Rattle.lock_db.specs.Tables.{resource_at, released}
use Rattle.plain_cat.specs.declared.mode.Mode.{Mode}
use Rattle.plain_cat.specs.declared.command.Cmd.{Cmd}
use Rattle.plain_cat.specs.declared.command.Cmd.TheVariants as cmd
use Rattle.plain_cat.specs.declared.reply.Reply.{Reply}
use Rattle.plain_rules.specs.Own.{is_closed}
use Rattle.vol_parts.specs.declared.geometry.Geometry.{Geometry}
use Rattle.node_locks.specs.Held.{system_of}
use Rattle.node_locks.specs.PuttingBack.{MayPutBack}
use Rattle.node_locks.specs.Sequences.{raised_block}
use Rattle.op_law.specs.declared.need.PlanWrite.{PlanWrite}
use Rattle.op_law.specs.declared.need.Plan.{Plan}
use Rattle.op_law.specs.declared.seen.Chan.{Chan}
use Rattle.core_state.specs.Worlds.{NodeState}
use Rattle.core_state.specs.Raises.{raise_of}
use Rattle.core_state.specs.Asks.{reply_by}
use Rattle.core_state.specs.Channels.{channel_seen}
use Rattle.core_state.specs.Caches.{keeps, raised_values, put_back_all}
use Rattle.core_state.specs.Events.{all_writes, going, used_locks, given_back}

-- the file system of node n holds each of these locks as its turn comes
abbrev pub MayGiveAll : Geometry → ℕ → List PlanWrite → List (LockName × Mode) → List Resource → Type 0
MayGiveAll g n ws [] t = Unit {0}
MayGiveAll g n ws (l ∷ locks) t =
    IsSome (lock_of (system_of n) (resource_at l.0 t).askers) × MayGiveAll g n ws locks (released l.0 (system_of n) (raised_block l.0 (raise_of g l.0 ws) (resource_at l.0 t)) t)

-- node n, which stands as s, can put back the locks of its command, and give back those that it kept and that do not stay
pub record MayPutAllBack (g : Geometry) (n : ℕ) (s : NodeState) (t : List Resource) : Type 0 where
  pub puts : MayPutBack n (keeps s.cache) (raised_values g (all_writes s)) (used_locks s) t
  pub gives : MayGiveAll g n (all_writes s) (going s) (put_back_all g n (all_writes s) s.cache (used_locks s) t)

-- node n can give back all of these locks, where their value blocks stay
abbrev pub MayLeaveAll : ℕ → List (LockName × Mode) → List Resource → Type 0
MayLeaveAll n [] t = Unit {0}
MayLeaveAll n (l ∷ locks) t = IsSome (lock_of (system_of n) (resource_at l.0 t).askers) × MayLeaveAll n locks (released l.0 (system_of n) (resource_at l.0 t).value t)

-- the channel of node n has the lock of what it had open
abbrev pub MayLetGo : ℕ → ℕ → Option Chan → List Resource → Type 0
MayLetGo n chan None t = Unit {0}
MayLetGo n chan (Some p) t = IsSome (lock_of (record { node = n; part = chan }) (resource_at (A p.file.num) t).askers)

-- so it is where the reply closes it
abbrev pub MayCloseOff : ℕ → Option Chan → Cmd → Reply → List Resource → Type 0
MayCloseOff n had (cmd.CloseFile chan) r t = is_closed r ≡ true → MayLetGo n chan had t
MayCloseOff n had other r t = Unit {0}

-- A node's command can end: it has a command and a plan, there is room for the locks that it will keep, its locks can be put back, and then
-- that of its channel, and its answers can be counted.
pub record MayEnd (g : Geometry) (n : ℕ) (s : NodeState) (t : List Resource) : Type 0 where
  pub cmd : IsSome s.cmd
  pub plan : IsSome s.plan
  pub few : s.past.answered < 4294967295
  pub room : length s.kept + (length s.asked + length s.claims) ≤ 128
  pub gives : MayPutAllBack g n s t
  pub closes : (x : Cmd) (p : Plan) → s.cmd ≡ Some x → s.plan ≡ Some p
      → MayCloseOff n (channel_seen s.opens x) x (reply_by p.ask s.tried p.reply) (given_back g n (all_writes s) (going s) (put_back_all g n (all_writes s) s.cache (used_locks s) t))
