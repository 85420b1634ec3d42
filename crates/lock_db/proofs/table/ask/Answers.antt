use Rattle.std.proofs.Common.{◌≡◌, ap, sym, ◌∙◌, set}
use Rattle.std.proofs.lemmas.Result.{on_ok_weaker}
use Rattle.std.specs.List.{insert}
use Rattle.lock_db.specs.declared.resource.Resource.{Resource}
use Rattle.lock_db.specs.Resources.{asked_of, asked_answer, goes_at_once}
use Rattle.lock_db.specs.Tables.{IsAt, IsGap, resource_at}
use Rattle.lock_db.proofs.Places.{resource_at-here, resource_at-gap, asked-here, asked-new}
use Rattle.lock_db.proofs.table.ask.Goals as goal

pub returns-in-Ok-clause-ok : goal.returns-in-Ok-clause-ok
returns-in-Ok-clause-ok c =
    let r : Resource = c.index_mut-r.result.now in
    let t = c.args.table.now.items in
    let at : IsAt c.args.name t c.in-Ok.i = rw c.deref.ensures.value at c.in-Ok.ensures in
    on_ok_weaker c.ask.result
    (λ e. ap (set t c.in-Ok.i) (e ∙ ap (asked_of c.args.owner c.args.mode) c.index_mut-r.ensures.value) ∙ asked-here c.args.name t c.in-Ok.i c.args.owner c.args.mode r c.requires at)
    c.ask.ensures.ok

pub returns-in-Ok-clause-answer : goal.returns-in-Ok-clause-answer
returns-in-Ok-clause-answer c =
    let r : Resource = c.index_mut-r.result.now in
    let at : IsAt c.args.name c.args.table.now.items c.in-Ok.i = rw c.deref.ensures.value at c.in-Ok.ensures in
    let here : resource_at c.args.name c.args.table.now.items ≡ r = resource_at-here c.args.name c.args.table.now.items c.in-Ok.i r c.requires at ∙ sym c.index_mut-r.ensures.value in
    rw here c.ask.ensures.answer

pub returns-in_ok-insert-in-Err-clause-ok : goal.returns-in_ok-insert-in-Err-clause-ok
returns-in_ok-insert-in-Err-clause-ok c =
    let gap : IsGap c.args.name c.args.table.now.items c.in-Err.i = rw c.deref.ensures.value at c.in-Err.ensures in
    c.in_ok-insert-in-Err.ensures.items
    ∙ ap (λ r. insert c.args.table.now.items c.in-Err.i r) (c.in_ok-answer-in-Err.ensures.ok ∙ ap (asked_of c.args.owner c.args.mode) c.new-r.ensures)
    ∙ asked-new c.args.name c.args.table.now.items c.in-Err.i c.args.owner c.args.mode gap

pub returns-in_ok-insert-in-Err-clause-answer : goal.returns-in_ok-insert-in-Err-clause-answer
returns-in_ok-insert-in-Err-clause-answer c =
    let gap : IsGap c.args.name c.args.table.now.items c.in-Err.i = rw c.deref.ensures.value at c.in-Err.ensures in
    c.in_ok-answer-in-Err.ensures.answer
    ∙ ap (λ (r : Resource). asked_answer (goes_at_once c.args.owner c.args.mode r.askers)) (c.new-r.ensures ∙ sym (resource_at-gap c.args.name c.args.table.now.items c.in-Err.i gap))
