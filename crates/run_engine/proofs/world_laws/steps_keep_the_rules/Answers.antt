use Rattle.run_engine.proofs.Worlds.{steps_keep_the_rules}
use Rattle.run_engine.proofs.world_laws.steps_keep_the_rules.Goals as goal

pub returns : goal.returns
returns _ = steps_keep_the_rules
