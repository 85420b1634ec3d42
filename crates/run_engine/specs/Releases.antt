-- When a command gives its locks back: the order of a history is that in which its commands release their locks.
use Rattle.std.specs.Prelude.{◌≡◌, ◌⊎◌, ◌++◌, ℕ, [], ◌∷◌, Option, Some, None}
use Rattle.plain_cat.specs.declared.mode.Mode.{Mode}
use Rattle.plain_cat.specs.declared.mode.Mode.TheVariants.{NL}
use Rattle.plain_cat.specs.declared.command.Cmd.{Cmd}
use Rattle.plain_cat.specs.declared.reply.Reply.{Reply}
use Rattle.plain_cat.specs.declared.history.Entry.TheVariants.{Done}
use Rattle.lock_db.specs.declared.name.LockName.{LockName}
use Rattle.lock_db.specs.declared.name.LockName.TheVariants.{X}
use Rattle.lock_db.specs.declared.askers.Standing.TheVariants.{Granted}
use Rattle.lock_db.specs.Laws.{stands_at}
use Rattle.node_locks.specs.Held.{system_of, Row, StandInOrder}
use Rattle.core_state.specs.Worlds.{NodeState, Plain, node_at}
use Rattle.core_state.specs.Events.{after_turn}
use Rattle.core_state.specs.Goods.{Good}

-- the locks that the command of a node has asked for, in order
abbrev pub asked_in : Option NodeState → Row
asked_in None = []
asked_in (Some s) = s.asked

abbrev pub asked_at : Plain → ℕ → Row
asked_at w n = asked_in (node_at w.nodes n)

-- No entry came: the command of node n keeps all locks that it has asked for, each in its mode, and may have asked for more.
pub record KeepsItsLocks (old new : Plain) (n : ℕ) : Type 0 where
  pub history : new.history ≡ old.history
  pub more : Row
  pub asked : asked_at new n ≡ asked_at old n ++ more

-- An entry of node n came, and with it all locks of its command went: what its file system holds then are locks in NL, which guard its cached
-- blocks, and X, if it has a stock.
pub record GivesItsLocksBack (old new : Plain) (n : ℕ) : Type 0 where
  pub cmd : Cmd
  pub reply : Reply
  pub history : new.history ≡ old.history ++ Done n cmd reply ∷ []
  pub asked : asked_at new n ≡ []
  pub low : (name : LockName) (mode : Mode) → stands_at name (system_of n) new.locks ≡ Some (Granted mode) → (mode ≡ NL) ⊎ (name ≡ X)

-- In every turn it is the one or the other. The lock table has the locks that a command has asked for: each is granted, but for the last,
-- which may wait.
pub record IsTwoPhase (w : Plain) (n : ℕ) : Type 0 where
  pub standing : StandInOrder w.locks n (asked_at w n)
  pub turn : KeepsItsLocks w (after_turn w n) n ⊎ GivesItsLocksBack w (after_turn w n) n

abbrev pub TurnsAreTwoPhase : Type 0
TurnsAreTwoPhase = (w : Plain) (n : ℕ) → Good w → Good (after_turn w n) → IsTwoPhase w n
