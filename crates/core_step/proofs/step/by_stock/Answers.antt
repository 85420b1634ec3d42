use Rattle.std.proofs.Common.{◌≡◌, ◌-◌, Some, map, slice_set, refl, sym, ap, subst, ◌∙◌, rules}
use Rattle.core_state.specs.Worlds.{state_of, plain_of}
use Rattle.core_state.proofs.Nodes.{told_at}
use Rattle.core_state.specs.Goods.{Good, HasRoom}
use Rattle.core_state.specs.Events.{serving, plan_at, next_event, after_turn}
use Rattle.core_step.specs.Ready.{IsReady, IsGivenAll}
use Rattle.core_step.specs.Spaces.{unserved}
use Rattle.core_step.specs.Outcome.{held_of}
use Rattle.core_step.proofs.FromStock.{good_served, ready_served, none_served, given_served, served_event, served_turn, served_takes, unserved_is}
use Rattle.core_step.proofs.Setting.{set_so, reset_so, set_room, reset_room}
use Rattle.core_step.proofs.Steps.{kept}
use Rattle.core_step.proofs.Outcomes.{lacking, still_room, begun_moves, begun_fails}
use Rattle.core_step.proofs.step.by_stock.Goals as goal

pub go_on_served-requires-clause-good : goal.go_on_served-requires-clause-good
go_on_served-requires-clause-good g c =
    let is = c.requires.needs c.requires.begun.state c.requires.begun.cmd c.requires.begun.at c.requires.begun.has in
    let may = c.requires.serves c.requires.begun.state c.requires.begun.at in
    let served = set_so (plain_of g.O.Operation.cmd_is c.args.core.now) c.args.node c.requires.begun.state (serving c.requires.begun.state c.args.need.clusters c.args.need.number) c.requires.begun.at (state_of g.O.Operation.cmd_is) c.args.core.now.nodes.items c.index_mut.result.now c.serve.new.node refl c.requires.node.from c.requires.node.to c.index_mut.ensures.value (λ mine. c.in_ok-before.ensures.ok ∙ ap (λ y. serving y c.args.need.clusters c.args.need.number) mine) in
    subst (λ v. Good v) (sym served) (good_served c.requires.good c.requires.begun c.requires.plan c.args.need.clusters c.args.need.number is may)

pub go_on_served-requires-clause-ready : goal.go_on_served-requires-clause-ready
go_on_served-requires-clause-ready g c =
    let is = c.requires.needs c.requires.begun.state c.requires.begun.cmd c.requires.begun.at c.requires.begun.has in
    let may = c.requires.serves c.requires.begun.state c.requires.begun.at in
    let served = set_so (plain_of g.O.Operation.cmd_is c.args.core.now) c.args.node c.requires.begun.state (serving c.requires.begun.state c.args.need.clusters c.args.need.number) c.requires.begun.at (state_of g.O.Operation.cmd_is) c.args.core.now.nodes.items c.index_mut.result.now c.serve.new.node refl c.requires.node.from c.requires.node.to c.index_mut.ensures.value (λ mine. c.in_ok-before.ensures.ok ∙ ap (λ y. serving y c.args.need.clusters c.args.need.number) mine) in
    subst (λ v. IsReady v c.args.node) (sym served) (ready_served c.requires.good c.requires.begun c.requires.plan c.args.need.clusters c.args.need.number is may)

pub go_on_served-requires-clause-plan : goal.go_on_served-requires-clause-plan
go_on_served-requires-clause-plan g c =
    let is = c.requires.needs c.requires.begun.state c.requires.begun.cmd c.requires.begun.at c.requires.begun.has in
    let may = c.requires.serves c.requires.begun.state c.requires.begun.at in
    let served = set_so (plain_of g.O.Operation.cmd_is c.args.core.now) c.args.node c.requires.begun.state (serving c.requires.begun.state c.args.need.clusters c.args.need.number) c.requires.begun.at (state_of g.O.Operation.cmd_is) c.args.core.now.nodes.items c.index_mut.result.now c.serve.new.node refl c.requires.node.from c.requires.node.to c.index_mut.ensures.value (λ mine. c.in_ok-before.ensures.ok ∙ ap (λ y. serving y c.args.need.clusters c.args.need.number) mine) in
    ap (λ v. plan_at v c.args.node) served ∙ none_served c.requires.good c.requires.begun c.requires.plan c.args.need.clusters c.args.need.number is may

pub go_on_served-requires-clause-given : goal.go_on_served-requires-clause-given
go_on_served-requires-clause-given g c =
    let is = c.requires.needs c.requires.begun.state c.requires.begun.cmd c.requires.begun.at c.requires.begun.has in
    let may = c.requires.serves c.requires.begun.state c.requires.begun.at in
    let served = set_so (plain_of g.O.Operation.cmd_is c.args.core.now) c.args.node c.requires.begun.state (serving c.requires.begun.state c.args.need.clusters c.args.need.number) c.requires.begun.at (state_of g.O.Operation.cmd_is) c.args.core.now.nodes.items c.index_mut.result.now c.serve.new.node refl c.requires.node.from c.requires.node.to c.index_mut.ensures.value (λ mine. c.in_ok-before.ensures.ok ∙ ap (λ y. serving y c.args.need.clusters c.args.need.number) mine) in
    subst (λ v. IsGivenAll v c.args.node) (sym served) (given_served c.requires.good c.requires.begun c.requires.plan c.args.need.clusters c.args.need.number is may)

pub go_on_served-requires-clause-room : goal.go_on_served-requires-clause-room
go_on_served-requires-clause-room g c =
    let is = c.requires.needs c.requires.begun.state c.requires.begun.cmd c.requires.begun.at c.requires.begun.has in
    let may = c.requires.serves c.requires.begun.state c.requires.begun.at in
    let served = set_so (plain_of g.O.Operation.cmd_is c.args.core.now) c.args.node c.requires.begun.state (serving c.requires.begun.state c.args.need.clusters c.args.need.number) c.requires.begun.at (state_of g.O.Operation.cmd_is) c.args.core.now.nodes.items c.index_mut.result.now c.serve.new.node refl c.requires.node.from c.requires.node.to c.index_mut.ensures.value (λ mine. c.in_ok-before.ensures.ok ∙ ap (λ y. serving y c.args.need.clusters c.args.need.number) mine) in
    subst (λ v. HasRoom v c.args.core.now.history.room) (sym served) (set_room (plain_of g.O.Operation.cmd_is c.args.core.now) c.args.node c.requires.begun.state (serving c.requires.begun.state c.args.need.clusters c.args.need.number) c.requires.begun.at refl c.args.core.now.history.room c.requires.room)

pub returns-in-Ok : goal.returns-in-Ok
returns-in-Ok g c =
    let is = c.requires.needs c.requires.begun.state c.requires.begun.cmd c.requires.begun.at c.requires.begun.has in
    let may = c.requires.serves c.requires.begun.state c.requires.begun.at in
    let served = set_so (plain_of g.O.Operation.cmd_is c.args.core.now) c.args.node c.requires.begun.state (serving c.requires.begun.state c.args.need.clusters c.args.need.number) c.requires.begun.at (state_of g.O.Operation.cmd_is) c.args.core.now.nodes.items c.index_mut.result.now c.serve.new.node refl c.requires.node.from c.requires.node.to c.index_mut.ensures.value (λ mine. c.in_ok-before.ensures.ok ∙ ap (λ y. serving y c.args.need.clusters c.args.need.number) mine) in
    let event = ap (λ v. next_event v c.args.node) served ∙ served_event c.requires.good c.requires.begun c.requires.plan c.args.need.clusters c.args.need.number is may in
    let after = ap (λ v. after_turn v c.args.node) served ∙ served_turn c.requires.good c.requires.begun c.requires.plan c.args.need.clusters c.args.need.number is may in
    begun_moves (record (plain_of g.O.Operation.cmd_is c.args.core.now) { nodes = map (state_of g.O.Operation.cmd_is) (slice_set c.args.core.now.nodes.items (c.args.node - 1) c.serve.new.node) }) refl refl event after (held_of g.O.Operation.cmd_is c.go_on_served.new.core) _ c.in-Ok.ensures

pub returns-in-Err : goal.returns-in-Err
returns-in-Err g c =
    let is = c.requires.needs c.requires.begun.state c.requires.begun.cmd c.requires.begun.at c.requires.begun.has in
    let may = c.requires.serves c.requires.begun.state c.requires.begun.at in
    let served = set_so (plain_of g.O.Operation.cmd_is c.args.core.now) c.args.node c.requires.begun.state (serving c.requires.begun.state c.args.need.clusters c.args.need.number) c.requires.begun.at (state_of g.O.Operation.cmd_is) c.args.core.now.nodes.items c.index_mut.result.now c.serve.new.node refl c.requires.node.from c.requires.node.to c.index_mut.ensures.value (λ mine. c.in_ok-before.ensures.ok ∙ ap (λ y. serving y c.args.need.clusters c.args.need.number) mine) in
    let event = ap (λ v. next_event v c.args.node) served ∙ served_event c.requires.good c.requires.begun c.requires.plan c.args.need.clusters c.args.need.number is may in
    let after = ap (λ v. after_turn v c.args.node) served ∙ served_turn c.requires.good c.requires.begun c.requires.plan c.args.need.clusters c.args.need.number is may in
    let before = c.in_ok-before.ensures.before in
    let one = told_at (state_of g.O.Operation.cmd_is) c.args.core.now.nodes.items c.args.node c.index_mut.result.now c.requires.node.from c.requires.node.to c.index_mut.ensures.value in
    let f : Some (state_of g.O.Operation.cmd_is c.index_mut.result.now) ≡ Some c.requires.begun.state = sym one ∙ c.requires.begun.at in
    let mine : state_of g.O.Operation.cmd_is c.index_mut.result.now ≡ c.requires.begun.state = cc in
    let back = reset_so (plain_of g.O.Operation.cmd_is c.args.core.now) c.args.node c.requires.begun.state (serving c.requires.begun.state c.args.need.clusters c.args.need.number) c.requires.begun.at (state_of g.O.Operation.cmd_is) c.go_on_served.new.core.nodes.items (plain_of g.O.Operation.cmd_is c.go_on_served.new.core) c.index_mut-in-Err.result.now c.take_back.new.node refl (c.in-Err.ensures.same ∙ served) c.requires.node.from c.requires.node.to c.index_mut-in-Err.ensures.value
    (λ e. c.take_back.ensures ∙ ap (λ y. unserved y c.in_ok-before.before.phase c.in_ok-before.before.stock.clusters c.in_ok-before.before.stock.numbers) e ∙ (λ i. unserved (serving c.requires.begun.state c.args.need.clusters c.args.need.number) ((before.1 ∙ ap (λ q. q.run.phase) mine) i) ((ap (λ k. k.clusters) before.0 ∙ ap (λ q. q.stock.clusters) mine) i) ((ap (λ k. k.numbers) before.0 ∙ ap (λ q. q.stock.numbers) mine) i)) ∙ unserved_is c.requires.good c.requires.begun c.requires.plan c.args.need.clusters c.args.need.number is may) in
    let room = subst (λ v. HasRoom v c.go_on_served.new.core.history.room) (sym back) (reset_room (plain_of g.O.Operation.cmd_is c.args.core.now) c.args.node c.requires.begun.state (serving c.requires.begun.state c.args.need.clusters c.args.need.number) c.requires.begun.at refl c.go_on_served.new.core.history.room (subst (λ v. HasRoom v c.go_on_served.new.core.history.room) (c.in-Err.ensures.same ∙ served) c.in-Err.ensures.room)) in
    begun_fails (record (plain_of g.O.Operation.cmd_is c.args.core.now) { nodes = map (state_of g.O.Operation.cmd_is) (slice_set c.args.core.now.nodes.items (c.args.node - 1) c.serve.new.node) }) refl refl event after (held_of g.O.Operation.cmd_is c.go_on_served.new.core) _ _ c.in-Err.ensures refl back room

pub returns-in_err-before : goal.returns-in_err-before
returns-in_err-before g c =
    let is = c.requires.needs c.requires.begun.state c.requires.begun.cmd c.requires.begun.at c.requires.begun.has in
    let may = c.requires.serves c.requires.begun.state c.requires.begun.at in
    let same = kept (state_of g.O.Operation.cmd_is) c.args.core.now.nodes.items (plain_of g.O.Operation.cmd_is c.args.core.now) c.args.node c.index_mut.result.now c.serve.new.node c.requires.node.from c.requires.node.to c.index_mut.ensures.value refl c.in_err-before.ensures.err in
    lacking _ (search rules) same (served_takes c.requires.good c.requires.begun c.requires.plan c.args.need.clusters c.args.need.number is may) refl (still_room same refl c.requires.room)

pub serve-requires : goal.serve-requires
serve-requires g c =
    let one = told_at (state_of g.O.Operation.cmd_is) c.args.core.now.nodes.items c.args.node c.index_mut.result.now c.requires.node.from c.requires.node.to c.index_mut.ensures.value in
    c.requires.serves (state_of g.O.Operation.cmd_is c.index_mut.result.now) one
