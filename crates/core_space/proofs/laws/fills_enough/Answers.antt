use Rattle.core_space.proofs.Filled.{fills_enough}
use Rattle.core_space.proofs.laws.fills_enough.Goals as goal

pub returns : goal.returns
returns c = fills_enough
