use Rattle.std.proofs.Common.{◌≡◌, Some, refl, sym, ap, subst, ◌∙◌}
use Rattle.core_state.specs.Worlds.{state_of, plain_of}
use Rattle.core_state.specs.Goods.{HasRoom}
use Rattle.core_state.specs.Event as event
use Rattle.core_state.specs.Events.{is_out, turned}
use Rattle.core_state.proofs.Nodes.{told_at}
use Rattle.core_step.proofs.Begun.{rests, rests_so, stands_still, lawful_held, held_out, held_still, held_giving, always_ok}
use Rattle.core_step.proofs.Outcomes.{quiet}
use Rattle.core_step.proofs.Ready.{kept_room}
use Rattle.core_step.proofs.step.step.Goals as goal

pub returns-then-is_out-clause-turn : goal.returns-then-is_out-clause-turn
returns-then-is_out-clause-turn g c =
    let here = told_at (state_of g.O.Operation.cmd_is) c.args.core.now.nodes.items c.args.node c.index.result.now c.requires.node.from c.requires.node.to c.index.ensures in
    let out = sym c.if-is_out.ensures in
    let world = c.stand.ensures.world in
    quiet _ (rests (plain_of g.O.Operation.cmd_is c.args.core.now) c.args.node (state_of g.O.Operation.cmd_is c.index.result.now) here out) (world ∙ rests_so (plain_of g.O.Operation.cmd_is c.args.core.now) c.args.node (state_of g.O.Operation.cmd_is c.index.result.now) here) refl (ap (λ m. m.image) c.stand.ensures.mirror) (ap (λ m. m.blocks) c.stand.ensures.mirror)
    (subst (λ k. HasRoom (plain_of g.O.Operation.cmd_is c.stand.new.core) k) (sym c.stand.ensures.room) (kept_room (plain_of g.O.Operation.cmd_is c.args.core.now) c.args.node (state_of g.O.Operation.cmd_is c.index.result.now) here event.Stand (turned (state_of g.O.Operation.cmd_is c.index.result.now)) c.args.core.now.history.room refl refl refl refl c.requires.room (plain_of g.O.Operation.cmd_is c.stand.new.core) world))

pub returns-then-is_out-clause-lawful : goal.returns-then-is_out-clause-lawful
returns-then-is_out-clause-lawful g c s x at calm now =
    let here = told_at (state_of g.O.Operation.cmd_is) c.args.core.now.nodes.items c.args.node c.index.result.now c.requires.node.from c.requires.node.to c.index.ensures in
    lawful_held (plain_of g.O.Operation.cmd_is c.args.core.now) c.args.node (state_of g.O.Operation.cmd_is c.index.result.now) here (held_out (plain_of g.O.Operation.cmd_is c.args.core.now) c.args.node (state_of g.O.Operation.cmd_is c.index.result.now) (sym c.if-is_out.ensures)) s x at calm

pub returns-then-stands-clause-turn : goal.returns-then-stands-clause-turn
returns-then-stands-clause-turn g c =
    let here = told_at (state_of g.O.Operation.cmd_is) c.args.core.now.nodes.items c.args.node c.index.result.now c.requires.node.from c.requires.node.to c.index.ensures in
    let world = c.stand-then-stands.ensures.world in
    quiet _ (stands_still (plain_of g.O.Operation.cmd_is c.args.core.now) c.args.node (state_of g.O.Operation.cmd_is c.index.result.now) here (sym c.if-is_out.ensures) (sym (c.if-stands.ensures (state_of g.O.Operation.cmd_is c.index.result.now) here))) world refl (ap (λ m. m.image) c.stand-then-stands.ensures.mirror) (ap (λ m. m.blocks) c.stand-then-stands.ensures.mirror)
    (subst (λ k. HasRoom (plain_of g.O.Operation.cmd_is c.stand-then-stands.new.core) k) (sym c.stand-then-stands.ensures.room) (kept_room (plain_of g.O.Operation.cmd_is c.args.core.now) c.args.node (state_of g.O.Operation.cmd_is c.index.result.now) here event.Stand (turned (state_of g.O.Operation.cmd_is c.index.result.now)) c.args.core.now.history.room refl refl refl refl c.requires.room (plain_of g.O.Operation.cmd_is c.stand-then-stands.new.core) world))

pub returns-then-stands-clause-lawful : goal.returns-then-stands-clause-lawful
returns-then-stands-clause-lawful g c s x at calm now =
    lawful_held (plain_of g.O.Operation.cmd_is c.args.core.now) c.args.node s at (held_still (plain_of g.O.Operation.cmd_is c.args.core.now) c.args.node s (sym (c.if-stands.ensures s at))) s x at calm

pub by_back-requires-clause-on : goal.by_back-requires-clause-on
by_back-requires-clause-on g c s at =
    let here = told_at (state_of g.O.Operation.cmd_is) c.args.core.now.nodes.items c.args.node c.index.result.now c.requires.node.from c.requires.node.to c.index.ensures in
    let one : Some (state_of g.O.Operation.cmd_is c.index.result.now) ≡ Some s = sym here ∙ at in
    let mine : state_of g.O.Operation.cmd_is c.index.result.now ≡ s = cc in
    (sym (c.if-is_out.ensures ∙ ap is_out mine), (sym (c.gives_back-gives.ensures s at) ∙ c.if-gives.true, sym (c.if-stands.ensures s at)))

pub by_command-requires-clause-on : goal.by_command-requires-clause-on
by_command-requires-clause-on g c s at =
    let here = told_at (state_of g.O.Operation.cmd_is) c.args.core.now.nodes.items c.args.node c.index.result.now c.requires.node.from c.requires.node.to c.index.ensures in
    let one : Some (state_of g.O.Operation.cmd_is c.index.result.now) ≡ Some s = sym here ∙ at in
    let mine : state_of g.O.Operation.cmd_is c.index.result.now ≡ s = cc in
    (sym (c.if-is_out.ensures ∙ ap is_out mine), (sym (c.gives_back-gives.ensures s at) ∙ c.if-gives.false, sym (c.if-stands.ensures s at)))

pub returns-then-gives-clause-lawful : goal.returns-then-gives-clause-lawful
returns-then-gives-clause-lawful g c =
    always_ok c.by_back.result _ (λ s x at calm now. lawful_held (plain_of g.O.Operation.cmd_is c.args.core.now) c.args.node s at (held_giving (plain_of g.O.Operation.cmd_is c.args.core.now) c.args.node s (sym (c.gives_back-gives.ensures s at) ∙ c.if-gives.true)) s x at calm)
