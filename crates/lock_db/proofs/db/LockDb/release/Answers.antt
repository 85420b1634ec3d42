use Rattle.lock_db.proofs.Steps.{IsTable-released}
use Rattle.lock_db.proofs.db.LockDb.release.Goals as goal

pub invariant_of-self : goal.invariant_of-self
invariant_of-self c = rw c.release.ensures (IsTable-released c.args.name c.args.owner c.args.value c.self.inside.resources.items c.self.invariant)
