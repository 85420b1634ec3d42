use Rattle.std.proofs.Common.{◌≡◌, None}
use Rattle.lock_db.specs.Queues.{standing_of}
use Rattle.lock_db.specs.Tables.{resource_at, tried}
use Rattle.lock_db.proofs.Steps.{IsTable-tried, IsTable-either}
use Rattle.lock_db.proofs.db.LockDb.try_request.Goals as goal

pub invariant_of-self : goal.invariant_of-self
invariant_of-self c =
    let t = c.self.inside.resources.items in
    let absent : standing_of c.args.owner (resource_at c.args.name t).askers ≡ None = rw c.self.view_is c.requires in
    IsTable-either c.try_ask.result c.try_ask.new.table.items (tried c.args.name c.args.owner c.args.mode t) t c.try_ask.ensures.ok c.try_ask.ensures.err (IsTable-tried c.args.name c.args.owner c.args.mode t c.self.invariant absent) c.self.invariant
