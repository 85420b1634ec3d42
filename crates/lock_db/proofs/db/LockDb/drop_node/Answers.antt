use Rattle.lock_db.proofs.Steps.{IsTable-dropped}
use Rattle.lock_db.proofs.db.LockDb.drop_node.Goals as goal

pub invariant_of-self : goal.invariant_of-self
invariant_of-self c = rw c.drop_node.ensures (IsTable-dropped c.args.node c.self.inside.resources.items c.self.invariant)
