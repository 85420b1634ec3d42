use Rattle.std.proofs.Common.{◌≡◌, ◌++◌, take, map}
use Rattle.vol_parts.specs.declared.finding.Finding.TheVariants as finding
use Rattle.vol_analyze.proofs.warnings.push_surplus.Given as goal

abbrev pub invariant-loop-n : goal.invariant-loop-n
invariant-loop-n l = l.out.items ≡ l.initial.out.items ++ map finding.Surplus (take l.n-index l.files)
