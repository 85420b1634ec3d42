use Rattle.std.proofs.Common.{◌∙◌, ◌++◌, List, [], ◌∷◌, take, get_or, append_assoc, sym, ap}
use Rattle.op_law.specs.declared.need.PlanWrite.{PlanWrite}
use Rattle.op_law.specs.Headers.{slots_freed}
use Rattle.op_steps.proofs.Begun.{at_error, so_far}
use Rattle.op_steps.proofs.Pushing.{freed_write, slots_more}
use Rattle.op_steps.proofs.slots.push_slots.Goals as goal

pub returns-in_err-write-clause-err : goal.returns-in_err-write-clause-err
returns-in_err-write-clause-err c = at_error _ (so_far c.args.writes.now _ _ c.loop-slot.slot-index c.loop-slot.invariant)

pub returns-in_err-push-clause-err : goal.returns-in_err-push-clause-err
returns-in_err-push-clause-err c = at_error _ (so_far c.args.writes.now _ _ c.loop-slot.slot-index (c.in_err-push.ensures.err ∙ c.loop-slot.invariant))

pub loop-slot-preserved : goal.loop-slot-preserved
loop-slot-preserved c =
    let g = c.args.g.now in
    let s = c.args.stage in
    let qs = c.args.clusters.now in
    let ns = c.args.numbers.now in
    let slots = c.args.slots.now in
    let i = c.loop-slot.slot-index in
    let old = c.args.writes.now in
    let all = slots_freed g s qs ns slots in
    let w = freed_write g s qs ns (get_or slots i (0, [])) in
    c.in_ok-push.ensures.ok
    ∙ ap (λ (v : PlanWrite). c.loop-slot.writes ++ v ∷ []) c.in_ok-write.ensures
    ∙ ap (λ (ws : List PlanWrite). ws ++ w ∷ []) c.loop-slot.invariant
    ∙ append_assoc old (take i all) (w ∷ [])
    ∙ ap (λ (ws : List PlanWrite). old ++ ws) (sym (slots_more g s qs ns slots i c.loop-slot-test.true))
