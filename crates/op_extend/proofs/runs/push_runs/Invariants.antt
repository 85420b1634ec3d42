use Rattle.std.proofs.Common.{◌≡◌, ◌++◌, take}
use Rattle.op_law.specs.Writing.{runs_for}
use Rattle.op_extend.proofs.runs.push_runs.Given as goal

abbrev pub invariant-loop-q : goal.invariant-loop-q
invariant-loop-q l = l.all.items ≡ l.fn.all.items ++ runs_for l.g (take l.q-index l.clusters)
