use Rattle.plain_mends.proofs.GoneSteps.{entry_ends, entry_stays, entry_first, entry_others, entry_fewer}
use Rattle.plain_mends.proofs.removing.entry_goes.Goals as goal

pub returns : goal.returns
returns _ = record { ends = entry_ends; stay = entry_stays; first = entry_first; others = entry_others; fewer = entry_fewer }
