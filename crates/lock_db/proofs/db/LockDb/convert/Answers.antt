use Rattle.std.proofs.Common.{ap, ◌∙◌}
use Rattle.lock_db.specs.Tables.{IsTable, converts_now}
use Rattle.lock_db.specs.Resources.{asked_answer}
use Rattle.lock_db.proofs.Steps.{IsTable-converted, take-written}
use Rattle.lock_db.proofs.db.LockDb.convert.Goals as goal

pub invariant_of-self : goal.invariant_of-self
invariant_of-self c =
    let old = c.deref_mut.result.now in
    let as_seen = c.deref_mut.ensures.value ∙ c.self.view_is in
    let table : IsTable old = rw c.deref_mut.ensures.value c.self.invariant in
    let after : IsTable c.convert.new.table = rw c.convert.ensures.after (IsTable-converted c.args.name c.args.owner c.args.mode c.args.value old table (rw as_seen c.requires.lock) (rw as_seen c.requires.not_across)) in
    rw (take-written c.convert.new.table c.self.inside.resources.items c.self.inside.resources.len (c.convert.auto.table ∙ c.deref_mut.ensures.len)) after

pub returns-clause-answer : goal.returns-clause-answer
returns-clause-answer c = c.convert.ensures.answer ∙ ap (λ t. asked_answer (converts_now c.args.name c.args.owner c.args.mode t)) (c.deref_mut.ensures.value ∙ c.self.view_is)
