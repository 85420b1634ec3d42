use Rattle.vol_parts.proofs.Cuts.{cut-takes, cut-counts, cut-leaves, cut-some, cut-inside}
use Rattle.vol_parts.proofs.Listed.{listed-some}
use Rattle.vol_parts.proofs.chains.laws.cuts_are_beginnings.Goals as goal

pub returns : goal.returns
returns c = record { first = cut-takes; count = cut-counts; all = cut-leaves; blocks = cut-some; inside = cut-inside; listed = listed-some }
