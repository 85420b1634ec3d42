use Rattle.vol_init.proofs.Accepted.{accepts_fresh, tells_fresh}
use Rattle.vol_init.proofs.laws.fresh_volumes_are_accepted.Goals as goal

pub returns : goal.returns
returns c = record { accepted = accepts_fresh; catalogue = tells_fresh }
