use Rattle.run_engine.proofs.StopsStopping.{runs_can_stop}
use Rattle.run_engine.proofs.stop_laws.runs_can_stop.Goals as goal

pub returns : goal.returns
returns _ = runs_can_stop
