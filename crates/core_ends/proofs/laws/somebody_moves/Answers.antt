use Rattle.core_ends.proofs.Movers.{somebody_moves}
use Rattle.core_ends.proofs.laws.somebody_moves.Goals as goal

pub returns : goal.returns
returns _ = somebody_moves
