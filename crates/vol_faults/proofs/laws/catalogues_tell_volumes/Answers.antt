use Rattle.vol_faults.proofs.LiftLemmas.{first-of-volume}
use Rattle.vol_faults.proofs.laws.catalogues_tell_volumes.Goals as goal

pub returns : goal.returns
returns c = first-of-volume
