use Rattle.run_engine.proofs.Ending.{over_is_whole}
use Rattle.run_engine.proofs.laws.over_is_whole.Goals as goal

pub returns : goal.returns
returns c = over_is_whole
