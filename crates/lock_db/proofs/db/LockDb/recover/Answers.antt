use Rattle.std.proofs.Common.{◌∙◌}
use Rattle.lock_db.specs.Tables.{IsTable}
use Rattle.lock_db.proofs.Steps.{IsTable-recovered, take-written}
use Rattle.lock_db.proofs.db.LockDb.recover.Goals as goal

pub invariant_of-self : goal.invariant_of-self
invariant_of-self c =
    let old = c.deref_mut.result.now in
    let table : IsTable old = rw c.deref_mut.ensures.value c.self.invariant in
    let after : IsTable c.recover.new.table = rw c.recover.ensures (IsTable-recovered c.args.name c.args.value c.args.valid old table) in
    rw (take-written c.recover.new.table c.self.inside.resources.items c.self.inside.resources.len (c.recover.auto.table ∙ c.deref_mut.ensures.len)) after
