use Rattle.std.proofs.Common.{◌-◌, map, slice_set, refl, sym, ap, subst, ◌∙◌}
use Rattle.core_state.specs.Worlds.{state_of, plain_of}
use Rattle.core_state.specs.Goods.{Good, HasRoom}
use Rattle.core_state.specs.Events.{next_event, after_turn}
use Rattle.core_step.specs.Ready.{IsBegun}
use Rattle.core_step.specs.Outcome.{held_of}
use Rattle.core_step.proofs.Begun.{good_begun, begun_now, room_begun, room_back, same_event, same_turn, forget_so, begun_so}
use Rattle.core_step.proofs.Outcomes.{begun_moves, begun_fails}
use Rattle.core_step.proofs.step.first.Goals as goal

pub go_on-requires-clause-good : goal.go_on-requires-clause-good
go_on-requires-clause-good g c =
    let begun = begun_so (plain_of g.O.Operation.cmd_is c.args.core.now) c.requires.good c.args.node c.args.cmd c.requires.begins (state_of g.O.Operation.cmd_is) c.args.core.now.nodes.items c.index_mut.result.now c.begin.new.node refl c.requires.node.from c.requires.node.to c.index_mut.ensures.value c.begin.ensures.state in
    subst (λ v. Good v) (sym begun) (good_begun (plain_of g.O.Operation.cmd_is c.args.core.now) c.requires.good c.args.node c.args.cmd c.requires.begins c.begin.ensures.lawful)

pub go_on-requires-clause-begun : goal.go_on-requires-clause-begun
go_on-requires-clause-begun g c =
    let begun = begun_so (plain_of g.O.Operation.cmd_is c.args.core.now) c.requires.good c.args.node c.args.cmd c.requires.begins (state_of g.O.Operation.cmd_is) c.args.core.now.nodes.items c.index_mut.result.now c.begin.new.node refl c.requires.node.from c.requires.node.to c.index_mut.ensures.value c.begin.ensures.state in
    subst (λ v. IsBegun v c.args.node) (sym begun) (begun_now (plain_of g.O.Operation.cmd_is c.args.core.now) c.requires.good c.args.node c.args.cmd c.requires.begins)

pub go_on-requires-clause-room : goal.go_on-requires-clause-room
go_on-requires-clause-room g c =
    let begun = begun_so (plain_of g.O.Operation.cmd_is c.args.core.now) c.requires.good c.args.node c.args.cmd c.requires.begins (state_of g.O.Operation.cmd_is) c.args.core.now.nodes.items c.index_mut.result.now c.begin.new.node refl c.requires.node.from c.requires.node.to c.index_mut.ensures.value c.begin.ensures.state in
    subst (λ v. HasRoom v c.args.core.now.history.room) (sym begun) (room_begun (plain_of g.O.Operation.cmd_is c.args.core.now) c.requires.good c.args.node c.args.cmd c.requires.begins c.args.core.now.history.room c.requires.room)

pub returns-in-Ok-clause-turn : goal.returns-in-Ok-clause-turn
returns-in-Ok-clause-turn g c =
    let begun = begun_so (plain_of g.O.Operation.cmd_is c.args.core.now) c.requires.good c.args.node c.args.cmd c.requires.begins (state_of g.O.Operation.cmd_is) c.args.core.now.nodes.items c.index_mut.result.now c.begin.new.node refl c.requires.node.from c.requires.node.to c.index_mut.ensures.value c.begin.ensures.state in
    let event = ap (λ v. next_event v c.args.node) begun ∙ same_event (plain_of g.O.Operation.cmd_is c.args.core.now) c.requires.good c.args.node c.args.cmd c.requires.begins in
    let after = ap (λ v. after_turn v c.args.node) begun ∙ same_turn (plain_of g.O.Operation.cmd_is c.args.core.now) c.requires.good c.args.node c.args.cmd c.requires.begins in
    begun_moves (record (plain_of g.O.Operation.cmd_is c.args.core.now) { nodes = map (state_of g.O.Operation.cmd_is) (slice_set c.args.core.now.nodes.items (c.args.node - 1) c.begin.new.node) }) refl refl event after (held_of g.O.Operation.cmd_is c.go_on.new.core) _ c.in-Ok.ensures

pub returns-in-Err-clause-turn : goal.returns-in-Err-clause-turn
returns-in-Err-clause-turn g c =
    let begun = begun_so (plain_of g.O.Operation.cmd_is c.args.core.now) c.requires.good c.args.node c.args.cmd c.requires.begins (state_of g.O.Operation.cmd_is) c.args.core.now.nodes.items c.index_mut.result.now c.begin.new.node refl c.requires.node.from c.requires.node.to c.index_mut.ensures.value c.begin.ensures.state in
    let event = ap (λ v. next_event v c.args.node) begun ∙ same_event (plain_of g.O.Operation.cmd_is c.args.core.now) c.requires.good c.args.node c.args.cmd c.requires.begins in
    let after = ap (λ v. after_turn v c.args.node) begun ∙ same_turn (plain_of g.O.Operation.cmd_is c.args.core.now) c.requires.good c.args.node c.args.cmd c.requires.begins in
    let back = forget_so (plain_of g.O.Operation.cmd_is c.args.core.now) c.requires.good c.args.node c.args.cmd c.requires.begins (state_of g.O.Operation.cmd_is) c.go_on.new.core.nodes.items (plain_of g.O.Operation.cmd_is c.go_on.new.core) c.index_mut-in-Err.result.now c.forget.new.node refl (c.in-Err.ensures.same ∙ begun) c.requires.node.from c.requires.node.to c.index_mut-in-Err.ensures.value c.forget.ensures in
    let room = subst (λ v. HasRoom v c.go_on.new.core.history.room) (sym back) (room_back (plain_of g.O.Operation.cmd_is c.args.core.now) c.requires.good c.args.node c.args.cmd c.requires.begins c.go_on.new.core.history.room (subst (λ v. HasRoom v c.go_on.new.core.history.room) (c.in-Err.ensures.same ∙ begun) c.in-Err.ensures.room)) in
    begun_fails (record (plain_of g.O.Operation.cmd_is c.args.core.now) { nodes = map (state_of g.O.Operation.cmd_is) (slice_set c.args.core.now.nodes.items (c.args.node - 1) c.begin.new.node) }) refl refl event after (held_of g.O.Operation.cmd_is c.go_on.new.core) _ _ c.in-Err.ensures refl back room
