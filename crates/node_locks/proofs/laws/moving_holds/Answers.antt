use Rattle.node_locks.proofs.Moving.{moving_holds}
use Rattle.node_locks.proofs.laws.moving_holds.Goals as goal

pub returns : goal.returns
returns c = moving_holds
