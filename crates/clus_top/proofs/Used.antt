-- In a run each cached block that a turn uses is the drive's.
use Rattle.std.proofs.Common.{◌≡◌, ℕ, List, Option, Some, None, ap, subst}
use Rattle.plain_cat.specs.declared.command.Cmd.{Cmd}
use Rattle.plain_rules.specs.Own.{next_command}
use Rattle.op_law.specs.Laws.{Lawful}
use Rattle.xqp_set.proofs.Every.{every_lawful}
use Rattle.core_state.specs.Worlds.{Plain, or_next}
use Rattle.core_state.specs.Goods.{HasCommand, Good}
use Rattle.core_state.specs.Deaths.{after_step}
use Rattle.core_state.proofs.Uses.{uses_right}
use Rattle.core_state.specs.Ends.{GoesLawfully}
use Rattle.run_engine.proofs.Worlds.{steps_keep_the_rules}
use Rattle.run_engine.specs.Walks.{IsPartOfWalk, WalkUsesTheDrives}
use Rattle.xqp_set.specs.Built.{IsBuilt}
use Rattle.xqp_set.proofs.Forms.{filled_built, close_built}
use Rattle.run_engine.proofs.Commands.{only_such}
use Rattle.run_engine.proofs.Walked.{over_part}

-- a node's command is in form, as the script is, and so it obeys the law
goes_lawfully : (w : Plain) → Good w → (n : ℕ) → GoesLawfully w n
goes_lawfully w good n s x at calm e = by_cmd s.cmd (good.nodes n s at).command e where
  by_cmd : (o : Option Cmd) → HasCommand w n s o → or_next o (next_command w.script n w.history) ≡ Some x → Lawful x
  by_cmd None idle f = every_lawful x (only_such IsBuilt filled_built close_built w.script good.form n w.history x f)
  by_cmd (Some y) way f = subst Lawful (same y x f) way.lawful where
    same : (a b : Cmd) → Some a ≡ Some b → a ≡ b
    same a b g = ap (held a) g where
      held : Cmd → Option Cmd → Cmd
      held a None = a
      held a (Some c) = c

pub step_keeps : (w : Plain) (n : ℕ) → Good w → Good (after_step w n)
step_keeps w n good = steps_keep_the_rules w n good (goes_lawfully w good n)

-- wherever a run stops, the world keeps the rules
pub walk_keeps : (start : Plain) → Good start → (plays : List ℕ) (w : Plain) → IsPartOfWalk start plays w → Good w
walk_keeps start good plays w part = over_part Good step_keeps start plays w part good

pub walk_uses : (start : Plain) → Good start → (plays : List ℕ) → WalkUsesTheDrives start plays
walk_uses start good plays w n part =
    let keeps = walk_keeps start good plays w part in
    uses_right w keeps n (goes_lawfully w keeps n)
