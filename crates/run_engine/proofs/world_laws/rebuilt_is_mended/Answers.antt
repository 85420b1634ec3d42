use Rattle.run_engine.proofs.Matching.{rebuilt_is_mended}
use Rattle.run_engine.proofs.world_laws.rebuilt_is_mended.Goals as goal

pub returns : goal.returns
returns _ = rebuilt_is_mended
