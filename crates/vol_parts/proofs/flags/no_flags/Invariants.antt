use Rattle.std.proofs.Common.{◌≡◌, false, replicate}
use Rattle.vol_parts.proofs.flags.no_flags.Given as goal

abbrev pub invariant-loop-i : goal.invariant-loop-i
invariant-loop-i l = l.flags ≡ replicate l._i false
