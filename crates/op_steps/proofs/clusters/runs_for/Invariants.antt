use Rattle.std.proofs.Common.{◌≡◌, take}
use Rattle.op_law.specs.Writing.{runs_for}
use Rattle.op_steps.proofs.clusters.runs_for.Given as goal

abbrev pub invariant-loop-q : goal.invariant-loop-q
invariant-loop-q l = l.runs.items ≡ runs_for l.g (take l.q-index l.q-items)
