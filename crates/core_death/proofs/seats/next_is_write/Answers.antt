use Rattle.std.proofs.Common.{sym, ap, ◌∙◌}
use Rattle.core_state.specs.Worlds.{state_of, node_at}
use Rattle.core_state.specs.Events.{gives_back, stands}
use Rattle.core_state.proofs.Nodes.{node_told}
use Rattle.core_death.proofs.Writing.{over_writes, standing_writes, next_writes}
use Rattle.core_death.proofs.seats.next_is_write.Goals as goal
use Rattle.core_death.proofs.seats.next_is_write.Goals.{then-is_over-via-then-is_over, then-is_over-via-else-is_over+then-stands}

pub returns-then-is_over : goal.returns-then-is_over
returns-then-is_over g c =
    let f = state_of g.O.Operation.cmd_is in
    let n = c.args.node in
    let s = f c.index-at.result.now in
    let at = node_told f c.w.inside.core.nodes.items c.args.w.now.world.nodes n c.index-at.result.now (sym (ap (λ h. h.world.nodes) c.w.view_is)) c.requires.from c.requires.to c.index-at.ensures in
    elim c.then-is_over.branch [
      | then-is_over-via-then-is_over w ↦ over_writes c.args.w.now.world c.keeps_the_rules.ensures.good n s at (sym c.is_over.ensures ∙ w.if-is_over.true)
      | then-is_over-via-else-is_over+then-stands w ↦ standing_writes c.args.w.now.world c.keeps_the_rules.ensures.good n s at (sym c.is_over.ensures ∙ w.if-is_over.false)
          (sym (ap (λ h. stands h.world n s) c.w.view_is) ∙ sym (w.stands.ensures s (ap (λ h. node_at h.world.nodes n) c.w.view_is ∙ at)) ∙ w.if-stands.true)
    ]

pub returns : goal.returns
returns g c =
    let f = state_of g.O.Operation.cmd_is in
    let n = c.args.node in
    let s = f c.index-at.result.now in
    let at = node_told f c.w.inside.core.nodes.items c.args.w.now.world.nodes n c.index-at.result.now (sym (ap (λ h. h.world.nodes) c.w.view_is)) c.requires.from c.requires.to c.index-at.ensures in
    let there = ap (λ h. node_at h.world.nodes n) c.w.view_is ∙ at in
    c.has_next.ensures ∙ next_writes c.args.w.now.world c.keeps_the_rules.ensures.good n s at (sym c.is_over.ensures ∙ c.if-is_over.false)
    (sym (ap (λ h. stands h.world n s) c.w.view_is) ∙ sym (c.stands.ensures s there) ∙ c.if-stands.false)
    c.gives_back-gives.result (sym (ap (λ h. gives_back h.world n s) c.w.view_is) ∙ sym (c.gives_back-gives.ensures s there))

pub gives_back-gives-requires-clause-good : goal.gives_back-gives-requires-clause-good
gives_back-gives-requires-clause-good g c = c.w.invariant.0.good
