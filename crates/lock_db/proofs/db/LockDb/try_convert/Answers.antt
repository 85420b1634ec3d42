use Rattle.std.proofs.Common.{◌∙◌}
use Rattle.lock_db.specs.Tables.{IsTable}
use Rattle.lock_db.proofs.Steps.{IsTable-try_converted, take-written}
use Rattle.lock_db.proofs.db.LockDb.try_convert.Goals as goal

pub invariant_of-self : goal.invariant_of-self
invariant_of-self c =
    let old = c.deref_mut.result.now in
    let as_seen = c.deref_mut.ensures.value ∙ c.self.view_is in
    let table : IsTable old = rw c.deref_mut.ensures.value c.self.invariant in
    let after : IsTable c.try_convert.new.table = rw c.try_convert.ensures.after (IsTable-try_converted c.args.name c.args.owner c.args.mode old table (rw as_seen c.requires.lock) (rw as_seen c.requires.upward)) in
    rw (take-written c.try_convert.new.table c.self.inside.resources.items c.self.inside.resources.len (c.try_convert.auto.table ∙ c.deref_mut.ensures.len)) after
