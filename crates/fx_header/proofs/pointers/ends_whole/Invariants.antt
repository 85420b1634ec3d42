use Rattle.std.proofs.Common.{◌≡◌, length}
use Rattle.fx_header.specs.Pointers.{rest_of}
use Rattle.fx_header.proofs.pointers.ends_whole.Given as goal

abbrev pub invariant-loop-behind : goal.invariant-loop-behind
invariant-loop-behind l = rest_of l.left ≡ rest_of l.fn.p

abbrev pub decreases-loop-behind : goal.decreases-loop-behind
decreases-loop-behind l = length l.left
