use Rattle.node_locks.proofs.Growing.{asking_grows}
use Rattle.node_locks.proofs.laws.asking_grows.Goals as goal

pub returns : goal.returns
returns c = asking_grows
