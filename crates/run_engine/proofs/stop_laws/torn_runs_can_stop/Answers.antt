use Rattle.run_engine.proofs.StopsStopping.{torn_runs_can_stop}
use Rattle.run_engine.proofs.stop_laws.torn_runs_can_stop.Goals as goal

pub returns : goal.returns
returns _ = torn_runs_can_stop
