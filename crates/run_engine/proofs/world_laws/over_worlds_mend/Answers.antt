use Rattle.run_engine.proofs.Worlds.{over_worlds_mend}
use Rattle.run_engine.proofs.world_laws.over_worlds_mend.Goals as goal

pub returns : goal.returns
returns _ = over_worlds_mend
