use Rattle.std.proofs.Common.{◌≡◌, Bool, false, map, take}
use Rattle.plain_vol.proofs.mending.no_flags.Given as goal

abbrev pub invariant-loop-flag : goal.invariant-loop-flag
invariant-loop-flag l = l.flags ≡ map (λ (b : Bool). false) (take l._flag-index l._flag-items)
