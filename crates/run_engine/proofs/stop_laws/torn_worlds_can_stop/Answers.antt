use Rattle.run_engine.proofs.StopsStopping.{torn_worlds_can_stop}
use Rattle.run_engine.proofs.stop_laws.torn_worlds_can_stop.Goals as goal

pub returns : goal.returns
returns _ = torn_worlds_can_stop
