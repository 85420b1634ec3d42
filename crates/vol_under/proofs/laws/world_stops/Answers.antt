use Rattle.vol_under.proofs.Stops.{world_stops}
use Rattle.vol_under.proofs.laws.world_stops.Goals as goal

pub returns : goal.returns
returns c = world_stops
