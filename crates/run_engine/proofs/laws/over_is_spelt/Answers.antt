use Rattle.run_engine.proofs.Ending.{over_is_spelt}
use Rattle.run_engine.proofs.laws.over_is_spelt.Goals as goal

pub returns : goal.returns
returns c = over_is_spelt
