use Rattle.std.proofs.Common.{◌∙◌, sym, ap, subst}
use Rattle.core_state.specs.Worlds.{state_of}
use Rattle.run_engine.specs.Walks.{Stays}
use Rattle.run_engine.proofs.Driving.{told_well}
use Rattle.run_engine.proofs.MendedDrives.{told_now}
use Rattle.run_engine.proofs.Staying.{step_stays, still_of_world}
use Rattle.run_trace.specs.Reads.{mark_of}
use Rattle.run_trace.proofs.Stepping.{step_is}
use Rattle.run_trace.proofs.steps.step.Goals as goal

pub push_own-requires : goal.push_own-requires
push_own-requires g c =
    let old = c.args.w.now.world in
    let x = c.seat_event.new.w.world in
    let stays : Stays old x = subst (λ v. Stays old v) (sym c.in_ok-turn.ensures.moved) (step_stays old c.args.node) in
    still_of_world old x c.args.node stays c.requires.node

pub push_grants-requires-clause-space : goal.push_grants-requires-clause-space
push_grants-requires-clause-space g c = λ k d lt.
    let old = c.args.w.now.world in
    let x = c.seat_event.new.w.world in
    let stays : Stays old x = subst (λ v. Stays old v) (sym c.in_ok-turn.ensures.moved) (step_stays old c.args.node) in
    still_of_world old x _ stays (c.in_ok-before.ensures.space_inside k d lt)

pub push_grants-requires-clause-command : goal.push_grants-requires-clause-command
push_grants-requires-clause-command g c = λ k d lt.
    let old = c.args.w.now.world in
    let x = c.seat_event.new.w.world in
    let stays : Stays old x = subst (λ v. Stays old v) (sym c.in_ok-turn.ensures.moved) (step_stays old c.args.node) in
    still_of_world old x _ stays (c.in_ok-before.ensures.command_inside k d lt)

pub returns-clause-text : goal.returns-clause-text
returns-clause-text g c =
    let n = c.args.node in
    let s = state_of g.O.Operation.cmd_is c.node_of.result.now in
    step_is c.args.number c.args.w.now.world c.seat_event.new.w.world n c.in_ok-turn.ensures.moved s c.mark_of-mark.result c.in_ok-turn.turn c.is_due-dies.result
    c.in_ok-before.before.space.items c.in_ok-before.before.command.items c.args.out.now.items c.push_own.new.out.items c.push_grants.new.out.items
    c.node_of.ensures c.requires.alive c.is_due-dies.ensures (c.mark_of-mark.ensures ∙ ap (λ h. mark_of h.world.locks n s) c.w.view_is) c.in_ok-turn.ensures.answer
    c.in_ok-before.ensures.space c.in_ok-before.ensures.command c.in_ok-push_own.ensures c.in_ok-push_grants.ensures

pub returns-clause-drive : goal.returns-clause-drive
returns-clause-drive g c = λ told. told_now _ _ _ (told_well _ _ _ (c.in_ok-turn.ensures.drive told) (λ p. cc))
