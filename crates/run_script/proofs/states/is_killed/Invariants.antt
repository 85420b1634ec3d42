use Rattle.std.proofs.Common.{◌≡◌, drop}
use Rattle.run_script.specs.Spelling.{is_killed}
use Rattle.run_script.proofs.states.is_killed.Given as goal

abbrev pub invariant-loop-kill : goal.invariant-loop-kill
invariant-loop-kill l = is_killed l.node (drop l.kill-index l.kills) ≡ is_killed l.node l.kills
