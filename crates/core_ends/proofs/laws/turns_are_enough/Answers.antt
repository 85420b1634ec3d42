use Rattle.core_ends.proofs.Rounding.{turns_are_enough}
use Rattle.core_ends.proofs.laws.turns_are_enough.Goals as goal

pub returns : goal.returns
returns _ = turns_are_enough
