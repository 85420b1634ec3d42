use Rattle.run_engine.proofs.Worlds.{halted_is_one}
use Rattle.run_engine.proofs.world_laws.halted_is_one.Goals as goal

pub returns : goal.returns
returns _ = halted_is_one
