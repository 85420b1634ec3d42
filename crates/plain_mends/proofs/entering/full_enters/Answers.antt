use Rattle.plain_mends.proofs.SettledSteps.{full_settled}
use Rattle.plain_mends.proofs.FullSteps.{full_ends, full_stays, full_left, empties_left}
use Rattle.plain_mends.proofs.entering.full_enters.Goals as goal

pub returns : goal.returns
returns _ = record { ends = full_ends; stay = full_stays; settled = full_settled; full = full_left; empty = empties_left }
