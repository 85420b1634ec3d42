use Rattle.std.proofs.Common.{◌≡◌, ◌++◌, drop}
use Rattle.vol_parts.specs.Chains.{cut}
use Rattle.vol_parts.proofs.chains.cut.Given as goal

-- what is left of the blocks is cut from what is left of the runs
abbrev pub invariant-loop-run : goal.invariant-loop-run
invariant-loop-run l = l.front.items ++ cut l.left (drop l.run-index l.runs) ≡ cut l.blocks l.runs
