use Rattle.std.proofs.Common.{◌≡◌, Bool, false}
use Rattle.log_check.proofs.InPlace.{changed}
use Rattle.log_check.proofs.tidying.clear_flags.Given as goal

abbrev pub invariant-loop-at : goal.invariant-loop-at
invariant-loop-at l = l.flags ≡ changed (λ (b : Bool). false) l.at l.fn.flags
