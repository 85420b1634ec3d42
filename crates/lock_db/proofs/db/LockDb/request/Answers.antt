use Rattle.std.proofs.Common.{◌≡◌, None}
use Rattle.lock_db.specs.Queues.{standing_of}
use Rattle.lock_db.specs.Tables.{resource_at, asked}
use Rattle.lock_db.proofs.Steps.{IsTable-asked, IsTable-either}
use Rattle.lock_db.proofs.db.LockDb.request.Goals as goal

pub invariant_of-self : goal.invariant_of-self
invariant_of-self c =
    let t = c.self.inside.resources.items in
    let absent : standing_of c.args.owner (resource_at c.args.name t).askers ≡ None = rw c.self.view_is c.requires in
    IsTable-either c.ask.result c.ask.new.table.items (asked c.args.name c.args.owner c.args.mode t) t c.ask.ensures.ok c.ask.ensures.err (IsTable-asked c.args.name c.args.owner c.args.mode t c.self.invariant absent) c.self.invariant
