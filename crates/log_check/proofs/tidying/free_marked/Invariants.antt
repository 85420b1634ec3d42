use Rattle.std.proofs.Common.{◌≡◌}
use Rattle.plain_tidy.specs.Tidy.{less_marked}
use Rattle.log_check.proofs.InPlace.{changed}
use Rattle.log_check.proofs.tidying.free_marked.Given as goal

abbrev pub invariant-loop-at : goal.invariant-loop-at
invariant-loop-at l = l.files ≡ changed less_marked l.at l.fn.files
