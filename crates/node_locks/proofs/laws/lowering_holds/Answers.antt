use Rattle.node_locks.proofs.Lowering.{lowering_holds}
use Rattle.node_locks.proofs.laws.lowering_holds.Goals as goal

pub returns : goal.returns
returns c = lowering_holds
