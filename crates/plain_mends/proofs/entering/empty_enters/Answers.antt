use Rattle.plain_mends.proofs.SettledSteps.{empty_settled}
use Rattle.plain_mends.proofs.EmptySteps.{empty_ends, empty_stays, none_left, others_left, still_without}
use Rattle.plain_mends.proofs.entering.empty_enters.Goals as goal

pub returns : goal.returns
returns _ = record { ends = empty_ends; stay = empty_stays; settled = empty_settled; none = none_left; empty = others_left; full = still_without }
