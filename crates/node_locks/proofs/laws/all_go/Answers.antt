use Rattle.node_locks.proofs.Sweeping.{all_go}
use Rattle.node_locks.proofs.laws.all_go.Goals as goal

pub returns : goal.returns
returns c = all_go
