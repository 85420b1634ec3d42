use Rattle.std.proofs.Common.{map, ◌≡◌, Some, refl, sym, ap, subst, ◌∙◌, rules}
use Rattle.std.specs.Prelude.{is_some}
use Rattle.plain_rules.specs.Own.{command_after}
use Rattle.core_state.specs.Worlds.{shown, state_of, plain_of}
use Rattle.core_state.specs.Goods.{HasRoom}
use Rattle.core_state.specs.Event as event
use Rattle.core_state.specs.Events.{turned, leaving}
use Rattle.core_state.proofs.Nodes.{told_at}
use Rattle.core_step.specs.Ready.{Begins}
use Rattle.core_step.proofs.Begun.{more_takes, leaves, leaves_can, not_claimed, item_begun, item_idle, lawful_now, lawful_begun, lawful_left, always_ok}
use Rattle.core_step.proofs.Outcomes.{quiet, lacking}
use Rattle.core_step.specs.Giving.{MayLeaveAll}
use Rattle.core_step.proofs.Ready.{kept_room, none_of}
use Rattle.core_step.proofs.step.by_command.Goals as goal

pub go_on-requires-clause-begun : goal.go_on-requires-clause-begun
go_on-requires-clause-begun g c =
    let here = told_at (state_of g.O.Operation.cmd_is) c.args.core.now.nodes.items c.args.node c.index-at.result.now c.requires.node.from c.requires.node.to c.index-at.ensures in
    let its = c.requires.on (state_of g.O.Operation.cmd_is c.index-at.result.now) here in
    let begun = item_begun g.O.Operation.cmd_is (plain_of g.O.Operation.cmd_is c.args.core.now) c.args.node c.index-at.result.now here its.0 its.1.0 its.1.1 c.if-is_some.ensures in
    begun

pub returns-then-is_some-clause-lawful : goal.returns-then-is_some-clause-lawful
returns-then-is_some-clause-lawful g c =
    let here = told_at (state_of g.O.Operation.cmd_is) c.args.core.now.nodes.items c.args.node c.index-at.result.now c.requires.node.from c.requires.node.to c.index-at.ensures in
    let its = c.requires.on (state_of g.O.Operation.cmd_is c.index-at.result.now) here in
    let begun = item_begun g.O.Operation.cmd_is (plain_of g.O.Operation.cmd_is c.args.core.now) c.args.node c.index-at.result.now here its.0 its.1.0 its.1.1 c.if-is_some.ensures in
    always_ok c.go_on.result _ (λ s x at now. lawful_now (plain_of g.O.Operation.cmd_is c.args.core.now) c.requires.good c.args.node begun s x at now)

pub first-requires-clause-begins : goal.first-requires-clause-begins
first-requires-clause-begins g c =
    let here = told_at (state_of g.O.Operation.cmd_is) c.args.core.now.nodes.items c.args.node c.index-at.result.now c.requires.node.from c.requires.node.to c.index-at.ensures in
    let its = c.requires.on (state_of g.O.Operation.cmd_is c.index-at.result.now) here in
    let idle = item_idle g.O.Operation.cmd_is c.index-at.result.now c.if-is_some.ensures in
    let node = c.requires.good.nodes c.args.node (state_of g.O.Operation.cmd_is c.index-at.result.now) here in
    let next = ap (command_after c.args.core.now.script c.args.node) (sym node.past) ∙ sym c.in_ok-cmd.ensures ∙ c.in-Some.is in
    let begins : Begins (plain_of g.O.Operation.cmd_is c.args.core.now) c.args.node c.in-Some.cmd = record { state = (state_of g.O.Operation.cmd_is c.index-at.result.now); at = here; idle = idle; on = its.0; gives = its.1.0; granted = not_claimed (plain_of g.O.Operation.cmd_is c.args.core.now) c.args.node (state_of g.O.Operation.cmd_is c.index-at.result.now) its.1.1; next = next } in
    begins

pub first-requires-clause-takes : goal.first-requires-clause-takes
first-requires-clause-takes g c =
    let here = told_at (state_of g.O.Operation.cmd_is) c.args.core.now.nodes.items c.args.node c.index-at.result.now c.requires.node.from c.requires.node.to c.index-at.ensures in
    let node = c.requires.good.nodes c.args.node (state_of g.O.Operation.cmd_is c.index-at.result.now) here in
    let next = ap (command_after c.args.core.now.script c.args.node) (sym node.past) ∙ sym c.in_ok-cmd.ensures ∙ c.in-Some.is in
    c.requires.takes c.args.node (map shown c.args.core.now.history.items) c.in-Some.cmd next

pub returns-clause-lawful : goal.returns-clause-lawful
returns-clause-lawful g c =
    let here = told_at (state_of g.O.Operation.cmd_is) c.args.core.now.nodes.items c.args.node c.index-at.result.now c.requires.node.from c.requires.node.to c.index-at.ensures in
    let its = c.requires.on (state_of g.O.Operation.cmd_is c.index-at.result.now) here in
    let idle = item_idle g.O.Operation.cmd_is c.index-at.result.now c.if-is_some.ensures in
    let node = c.requires.good.nodes c.args.node (state_of g.O.Operation.cmd_is c.index-at.result.now) here in
    let next = ap (command_after c.args.core.now.script c.args.node) (sym node.past) ∙ sym c.in_ok-cmd.ensures ∙ c.in-Some.is in
    let begins : Begins (plain_of g.O.Operation.cmd_is c.args.core.now) c.args.node c.in-Some.cmd = record { state = (state_of g.O.Operation.cmd_is c.index-at.result.now); at = here; idle = idle; on = its.0; gives = its.1.0; granted = not_claimed (plain_of g.O.Operation.cmd_is c.args.core.now) c.args.node (state_of g.O.Operation.cmd_is c.index-at.result.now) its.1.1; next = next } in
    always_ok c.first.result _ (λ s x at now. lawful_begun (plain_of g.O.Operation.cmd_is c.args.core.now) c.args.node c.in-Some.cmd begins c.first.ensures.lawful s x at now)

pub leave-requires-clause-may : goal.leave-requires-clause-may
leave-requires-clause-may g c s at =
    let here = told_at (state_of g.O.Operation.cmd_is) c.args.core.now.nodes.items c.args.node c.index-at.result.now c.requires.node.from c.requires.node.to c.index-at.ensures in
    let its = c.requires.on (state_of g.O.Operation.cmd_is c.index-at.result.now) here in
    let idle = item_idle g.O.Operation.cmd_is c.index-at.result.now c.if-is_some.ensures in
    let node = c.requires.good.nodes c.args.node (state_of g.O.Operation.cmd_is c.index-at.result.now) here in
    let next = ap (command_after c.args.core.now.script c.args.node) (sym node.past) ∙ none_of _ (sym c.if-not-has_next.ensures) in
    let one : Some (state_of g.O.Operation.cmd_is c.index-at.result.now) ≡ Some s = sym here ∙ at in
    let mine : (state_of g.O.Operation.cmd_is c.index-at.result.now) ≡ s = cc in
    subst (λ q. MayLeaveAll c.args.node q.kept c.args.core.now.locks) mine (leaves_can (plain_of g.O.Operation.cmd_is c.args.core.now) c.requires.good c.args.node (state_of g.O.Operation.cmd_is c.index-at.result.now) here its.0 idle next its.1.0)

pub returns-then-not-has_next-clause-turn : goal.returns-then-not-has_next-clause-turn
returns-then-not-has_next-clause-turn g c =
    let here = told_at (state_of g.O.Operation.cmd_is) c.args.core.now.nodes.items c.args.node c.index-at.result.now c.requires.node.from c.requires.node.to c.index-at.ensures in
    let its = c.requires.on (state_of g.O.Operation.cmd_is c.index-at.result.now) here in
    let idle = item_idle g.O.Operation.cmd_is c.index-at.result.now c.if-is_some.ensures in
    let node = c.requires.good.nodes c.args.node (state_of g.O.Operation.cmd_is c.index-at.result.now) here in
    let next = ap (command_after c.args.core.now.script c.args.node) (sym node.past) ∙ none_of _ (sym c.if-not-has_next.ensures) in
    let world = c.leave.ensures.world in
    quiet _ (leaves (plain_of g.O.Operation.cmd_is c.args.core.now) c.args.node (state_of g.O.Operation.cmd_is c.index-at.result.now) here its.0 its.1.1 its.1.0 idle next) world refl (ap (λ m. m.image) c.leave.ensures.mirror) (ap (λ m. m.blocks) c.leave.ensures.mirror)
    (subst (λ k. HasRoom (plain_of g.O.Operation.cmd_is c.leave.new.core) k) (sym c.leave.ensures.room) (kept_room (plain_of g.O.Operation.cmd_is c.args.core.now) c.args.node (state_of g.O.Operation.cmd_is c.index-at.result.now) here event.Leave (turned (leaving (state_of g.O.Operation.cmd_is c.index-at.result.now))) c.args.core.now.history.room refl refl refl refl c.requires.room (plain_of g.O.Operation.cmd_is c.leave.new.core) world))

pub returns-then-not-has_next-clause-lawful : goal.returns-then-not-has_next-clause-lawful
returns-then-not-has_next-clause-lawful g c s x at now =
    let here = told_at (state_of g.O.Operation.cmd_is) c.args.core.now.nodes.items c.args.node c.index-at.result.now c.requires.node.from c.requires.node.to c.index-at.ensures in
    let its = c.requires.on (state_of g.O.Operation.cmd_is c.index-at.result.now) here in
    let idle = item_idle g.O.Operation.cmd_is c.index-at.result.now c.if-is_some.ensures in
    let node = c.requires.good.nodes c.args.node (state_of g.O.Operation.cmd_is c.index-at.result.now) here in
    let next = ap (command_after c.args.core.now.script c.args.node) (sym node.past) ∙ none_of _ (sym c.if-not-has_next.ensures) in
    lawful_left (plain_of g.O.Operation.cmd_is c.args.core.now) c.args.node (state_of g.O.Operation.cmd_is c.index-at.result.now) here idle next s x at now

pub returns-in_err-cmd-clause-turn : goal.returns-in_err-cmd-clause-turn
returns-in_err-cmd-clause-turn g c =
    let here = told_at (state_of g.O.Operation.cmd_is) c.args.core.now.nodes.items c.args.node c.index-at.result.now c.requires.node.from c.requires.node.to c.index-at.ensures in
    let its = c.requires.on (state_of g.O.Operation.cmd_is c.index-at.result.now) here in
    let idle = item_idle g.O.Operation.cmd_is c.index-at.result.now c.if-is_some.ensures in
    let node = c.requires.good.nodes c.args.node (state_of g.O.Operation.cmd_is c.index-at.result.now) here in
    let some = ap (λ p. is_some (command_after c.args.core.now.script c.args.node p)) (sym node.past) ∙ sym c.if-not-has_next.ensures in
    lacking _ (search rules) refl (more_takes (plain_of g.O.Operation.cmd_is c.args.core.now) c.requires.good c.args.node (state_of g.O.Operation.cmd_is c.index-at.result.now) here its.0 its.1.1 its.1.0 idle some) refl c.requires.room
