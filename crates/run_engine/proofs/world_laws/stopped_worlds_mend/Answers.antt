use Rattle.run_engine.proofs.Worlds.{stopped_worlds_mend}
use Rattle.run_engine.proofs.world_laws.stopped_worlds_mend.Goals as goal

pub returns : goal.returns
returns _ = stopped_worlds_mend
