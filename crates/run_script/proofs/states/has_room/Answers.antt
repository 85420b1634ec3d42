use Rattle.std.proofs.Common.{arith}
use Rattle.std.proofs.lemmas.Bool.Decides.{nat_tests}
use Rattle.run_script.proofs.Played.{length_plays-drop}
use Rattle.run_script.proofs.states.has_room.Goals as goal

pub returns-then-count-left : goal.returns-then-count-left
returns-then-count-left c =
    let step = length_plays-drop c.args.runs.now c.loop-run.run-index record { node = 0; count = 0 } (omega arith) in
    grind (arith, nat_tests, c.loop-run.invariant, step)

pub loop-run-preserved : goal.loop-run-preserved
loop-run-preserved c =
    let step = length_plays-drop c.args.runs.now c.loop-run.run-index record { node = 0; count = 0 } (omega arith) in
    omega (arith, c.loop-run.invariant, step)
