use Rattle.std.proofs.Common.{not, false, ◌+◌, ◌≡◌, refl, sym, ap, subst, ◌∙◌, Some, None, rules}
use Rattle.std.specs.Prelude.{is_some}
use Rattle.lock_db.specs.declared.name.LockName.TheVariants.{A}
use Rattle.core_state.specs.Worlds.{plain_of}
use Rattle.core_state.specs.Asks.{has_asked, reply_by}
use Rattle.core_state.specs.Goods.{HasRoom}
use Rattle.core_state.specs.Event as event
use Rattle.core_state.specs.Events.{happen, tried_at}
use Rattle.core_step.specs.Asks.{going_ask, MayAsk}
use Rattle.core_step.specs.declared.asks.Aim.{Aim}
use Rattle.core_step.specs.Memory.{takes_none}
use Rattle.core_step.proofs.Ready.{IsItem, item_of, tells, goes_as, same_aim, one_node, plan_now, next_now, last_now, item_aim, aimed, aims_none, going_is, no_plan_now, place_kept, event_write, event_ask, ends_as, ends_told, may_ask, ask_apart, write_within, write_leaves, world_geometry, command_is, plan_is, tried_is, write_room, ask_room, ask_told, answer_room}
use Rattle.core_step.proofs.Ending.{may_end_at}
use Rattle.core_step.proofs.Outcomes.{quiet, wrote, lacking, failed, still_room}
use Rattle.core_step.proofs.step.planned.Goals as goal

pub unreachable-requires : goal.unreachable-requires
unreachable-requires g c =
    let it : IsItem g.O.Operation.cmd_is c.requires.ready c.index-at.result.now = item_of g.O.Operation.cmd_is c.args.core.now.nodes.items c.requires.ready c.index-at.result.now refl c.requires.node c.index-at.ensures in
    no_plan_now it c.in_default.is c.requires.plan

pub write-requires-clause-geometry : goal.write-requires-clause-geometry
write-requires-clause-geometry g c = world_geometry c.requires.good c.requires.ready

pub write-requires-clause-within : goal.write-requires-clause-within
write-requires-clause-within g c =
    let it : IsItem g.O.Operation.cmd_is c.requires.ready c.index-at.result.now = item_of g.O.Operation.cmd_is c.args.core.now.nodes.items c.requires.ready c.index-at.result.now refl c.requires.node c.index-at.ensures in
    let plan = plan_now it c.in-Some.plan c.in-Some.is in
    let next = next_now it c.in-Some.plan c.writes_by-writes.result.now c.index-writes-at.result c.writes_by-writes.ensures c.if-at-writes.true c.index-writes-at.is in
    write_within c.requires.good c.requires.ready c.in-Some.plan plan c.index-writes-at.result next

pub write-requires-clause-more : goal.write-requires-clause-more
write-requires-clause-more g c q at =
    let it : IsItem g.O.Operation.cmd_is c.requires.ready c.index-at.result.now = item_of g.O.Operation.cmd_is c.args.core.now.nodes.items c.requires.ready c.index-at.result.now refl c.requires.node c.index-at.ensures in
    ap (λ y. y.done + 1) (one_node it q at)

pub returns-in_err-write : goal.returns-in_err-write
returns-in_err-write g c =
    let it : IsItem g.O.Operation.cmd_is c.requires.ready c.index-at.result.now = item_of g.O.Operation.cmd_is c.args.core.now.nodes.items c.requires.ready c.index-at.result.now refl c.requires.node c.index-at.ensures in
    let plan = plan_now it c.in-Some.plan c.in-Some.is in
    let next = next_now it c.in-Some.plan c.writes_by-writes.result.now c.index-writes-at.result c.writes_by-writes.ensures c.if-at-writes.true c.index-writes-at.is in
    failed _ _ _ (search rules) (event_write c.requires.good c.requires.ready c.in-Some.plan plan (Some c.index-writes-at.result) next) c.in_err-write.ensures.same refl (write_leaves c.requires.good c.requires.ready c.index-writes-at.result)
    c.in_err-write.ensures.cause.later c.in_err-write.ensures.cause.failed c.in_err-write.ensures.failed (still_room c.in_err-write.ensures.same c.in_err-write.ensures.room c.requires.room)

pub returns-then-at-writes : goal.returns-then-at-writes
returns-then-at-writes g c =
    let it : IsItem g.O.Operation.cmd_is c.requires.ready c.index-at.result.now = item_of g.O.Operation.cmd_is c.args.core.now.nodes.items c.requires.ready c.index-at.result.now refl c.requires.node c.index-at.ensures in
    let plan = plan_now it c.in-Some.plan c.in-Some.is in
    let next = next_now it c.in-Some.plan c.writes_by-writes.result.now c.index-writes-at.result c.writes_by-writes.ensures c.if-at-writes.true c.index-writes-at.is in
    let world = c.in_ok-write.ensures.world c.index-writes-at.result refl refl refl in
    wrote _ _ _ (event_write c.requires.good c.requires.ready c.in-Some.plan plan (Some c.index-writes-at.result) next) world refl c.in_ok-write.ensures.cause.later c.in_ok-write.ensures.image c.in_ok-write.ensures.blocks
    (subst (λ k. HasRoom (plain_of g.O.Operation.cmd_is c.write.new.core) k) (sym c.in_ok-write.ensures.room) (write_room c.requires.good c.requires.ready c.index-writes-at.result c.args.core.now.history.room c.requires.room (plain_of g.O.Operation.cmd_is c.write.new.core) world))

pub going_ask-requires : goal.going_ask-requires
going_ask-requires g c not_yet =
    let it : IsItem g.O.Operation.cmd_is c.requires.ready c.index-at.result.now = item_of g.O.Operation.cmd_is c.args.core.now.nodes.items c.requires.ready c.index-at.result.now refl c.requires.node c.index-at.ensures in
    let plan = plan_now it c.in-Some.plan c.in-Some.is in
    goes_as c.requires.good c.requires.ready c.in-Some.plan plan (ap (λ y. y.tried) (sym (tells it)) ∙ not_yet)

pub ask-requires-clause-may : goal.ask-requires-clause-may
ask-requires-clause-may g c =
    let it : IsItem g.O.Operation.cmd_is c.requires.ready c.index-at.result.now = item_of g.O.Operation.cmd_is c.args.core.now.nodes.items c.requires.ready c.index-at.result.now refl c.requires.node c.index-at.ensures in
    let plan = plan_now it c.in-Some.plan c.in-Some.is in
    let aim = aimed (going_ask c.args.core.now.locks c.args.node c.requires.ready.state.tried c.in-Some.plan.ask) c.in-Some-going_ask.aim (sym (item_aim it c.args.core.now.locks c.in-Some.plan c.going_ask.result c.going_ask.ensures) ∙ c.in-Some-going_ask.is) in
    subst (λ (k : Aim). MayAsk (A k.file) (record { node = c.args.node; part = k.chan }) k.mode c.args.core.now.locks) (sym aim.same) (may_ask c.requires.good c.requires.ready c.in-Some.plan plan aim.made aim.is)

pub ask-requires-clause-apart : goal.ask-requires-clause-apart
ask-requires-clause-apart g c s at own =
    let it : IsItem g.O.Operation.cmd_is c.requires.ready c.index-at.result.now = item_of g.O.Operation.cmd_is c.args.core.now.nodes.items c.requires.ready c.index-at.result.now refl c.requires.node c.index-at.ensures in
    let plan = plan_now it c.in-Some.plan c.in-Some.is in
    let aim = aimed (going_ask c.args.core.now.locks c.args.node c.requires.ready.state.tried c.in-Some.plan.ask) c.in-Some-going_ask.aim (sym (item_aim it c.args.core.now.locks c.in-Some.plan c.going_ask.result c.going_ask.ensures) ∙ c.in-Some-going_ask.is) in
    subst (λ (k : Aim). has_asked (A k.file) s.asked ≡ false) (sym aim.same) (ask_apart c.requires.good c.requires.ready c.in-Some.plan plan aim.made aim.is s at)

pub ask-requires-clause-goes : goal.ask-requires-clause-goes
ask-requires-clause-goes g c a same =
    let it : IsItem g.O.Operation.cmd_is c.requires.ready c.index-at.result.now = item_of g.O.Operation.cmd_is c.args.core.now.nodes.items c.requires.ready c.index-at.result.now refl c.requires.node c.index-at.ensures in
    let aim = aimed (going_ask c.args.core.now.locks c.args.node c.requires.ready.state.tried c.in-Some.plan.ask) c.in-Some-going_ask.aim (sym (item_aim it c.args.core.now.locks c.in-Some.plan c.going_ask.result c.going_ask.ensures) ∙ c.in-Some-going_ask.is) in
    let going = going_is c.args.core.now.locks c.args.node c.requires.ready.state.tried c.in-Some.plan.ask aim.made aim.is in
    same_aim c.args.core.now.locks c.args.node aim.made a (sym aim.same ∙ same) going.goes

pub returns-in_err-ask : goal.returns-in_err-ask
returns-in_err-ask g c =
    let it : IsItem g.O.Operation.cmd_is c.requires.ready c.index-at.result.now = item_of g.O.Operation.cmd_is c.args.core.now.nodes.items c.requires.ready c.index-at.result.now refl c.requires.node c.index-at.ensures in
    let plan = plan_now it c.in-Some.plan c.in-Some.is in
    let last = last_now it c.in-Some.plan c.writes_by-writes.result.now c.writes_by-writes.ensures c.if-at-writes.false in
    let aim = aimed (going_ask c.args.core.now.locks c.args.node c.requires.ready.state.tried c.in-Some.plan.ask) c.in-Some-going_ask.aim (sym (item_aim it c.args.core.now.locks c.in-Some.plan c.going_ask.result c.going_ask.ensures) ∙ c.in-Some-going_ask.is) in
    let going = going_is c.args.core.now.locks c.args.node c.requires.ready.state.tried c.in-Some.plan.ask aim.made aim.is in
    lacking _ (search rules) c.in_err-ask.ensures.same (ap (takes_none c.args.core.now.locks c.args.node) (event_ask c.requires.good c.requires.ready c.in-Some.plan plan last aim.made aim.is).event ∙ ap not going.goes)
    (ap (λ m. m.image) c.in_err-ask.ensures.mirror) (still_room c.in_err-ask.ensures.same c.in_err-ask.ensures.room c.requires.room)

pub returns-in-Some-going_ask : goal.returns-in-Some-going_ask
returns-in-Some-going_ask g c =
    let it : IsItem g.O.Operation.cmd_is c.requires.ready c.index-at.result.now = item_of g.O.Operation.cmd_is c.args.core.now.nodes.items c.requires.ready c.index-at.result.now refl c.requires.node c.index-at.ensures in
    let plan = plan_now it c.in-Some.plan c.in-Some.is in
    let last = last_now it c.in-Some.plan c.writes_by-writes.result.now c.writes_by-writes.ensures c.if-at-writes.false in
    let aim = aimed (going_ask c.args.core.now.locks c.args.node c.requires.ready.state.tried c.in-Some.plan.ask) c.in-Some-going_ask.aim (sym (item_aim it c.args.core.now.locks c.in-Some.plan c.going_ask.result c.going_ask.ensures) ∙ c.in-Some-going_ask.is) in
    let going = going_is c.args.core.now.locks c.args.node c.requires.ready.state.tried c.in-Some.plan.ask aim.made aim.is in
    let world = c.in_ok-ask.ensures.world c.requires.ready.cmd aim.made aim.same in
    quiet _ (event_ask c.requires.good c.requires.ready c.in-Some.plan plan last aim.made aim.is) world (ask_told c.requires.good c.requires.ready aim.made going.goes (plain_of g.O.Operation.cmd_is c.ask.new.core) world)
    (ap (λ m. m.image) c.in_ok-ask.ensures.mirror) (ap (λ m. m.blocks) c.in_ok-ask.ensures.mirror)
    (subst (λ k. HasRoom (plain_of g.O.Operation.cmd_is c.ask.new.core) k) (sym c.in_ok-ask.ensures.room) (ask_room c.requires.good c.requires.ready c.requires.ready.cmd aim.made c.args.core.now.history.room going.goes c.requires.room (plain_of g.O.Operation.cmd_is c.ask.new.core) world))

pub answer-requires-clause-ends : goal.answer-requires-clause-ends
answer-requires-clause-ends g c =
    let it : IsItem g.O.Operation.cmd_is c.requires.ready c.index-at.result.now = item_of g.O.Operation.cmd_is c.args.core.now.nodes.items c.requires.ready c.index-at.result.now refl c.requires.node c.index-at.ensures in
    let plan = plan_now it c.in-Some.plan c.in-Some.is in
    may_end_at c.requires.good c.requires.ready c.requires.room.lines c.in-Some.plan plan

pub answer-requires-clause-place : goal.answer-requires-clause-place
answer-requires-clause-place g c =
    let it : IsItem g.O.Operation.cmd_is c.requires.ready c.index-at.result.now = item_of g.O.Operation.cmd_is c.args.core.now.nodes.items c.requires.ready c.index-at.result.now refl c.requires.node c.index-at.ensures in
    let plan = plan_now it c.in-Some.plan c.in-Some.is in
    place_kept c.requires.good c.requires.ready c.in-Some.plan plan c.args.core.now.history.room c.requires.room

pub returns : goal.returns
returns g c =
    let it : IsItem g.O.Operation.cmd_is c.requires.ready c.index-at.result.now = item_of g.O.Operation.cmd_is c.args.core.now.nodes.items c.requires.ready c.index-at.result.now refl c.requires.node c.index-at.ensures in
    let plan = plan_now it c.in-Some.plan c.in-Some.is in
    let last = last_now it c.in-Some.plan c.writes_by-writes.result.now c.writes_by-writes.ensures c.if-at-writes.false in
    let world = c.answer.ensures.world c.requires.ready.cmd c.in-Some.plan (command_is c.requires.good c.requires.ready) (plan_is c.requires.good c.requires.ready c.in-Some.plan plan) in
    let none = aims_none (going_ask c.args.core.now.locks c.args.node c.requires.ready.state.tried c.in-Some.plan.ask) (sym (item_aim it c.args.core.now.locks c.in-Some.plan c.going_ask.result c.going_ask.ensures) ∙ c.in_default-going_ask.is) in
    let reply = reply_by c.in-Some.plan.ask (tried_at (plain_of g.O.Operation.cmd_is c.args.core.now) c.args.node) c.in-Some.plan.reply in
    quiet _ (event_write c.requires.good c.requires.ready c.in-Some.plan plan None last)
    (world ∙ ap (λ b. happen (plain_of g.O.Operation.cmd_is c.args.core.now) c.args.node (event.Answer c.requires.ready.cmd (reply_by c.in-Some.plan.ask b c.in-Some.plan.reply))) (tried_is c.requires.good c.requires.ready) ∙ sym (ends_as c.requires.good c.requires.ready c.in-Some.plan none))
    (ends_told c.requires.good c.requires.ready c.in-Some.plan reply (plain_of g.O.Operation.cmd_is c.answer.new.core) world)
    (ap (λ m. m.image) c.answer.ensures.mirror) (ap (λ m. m.blocks) c.answer.ensures.mirror)
    (answer_room c.requires.good c.requires.ready c.requires.ready.cmd reply c.args.core.now.history.room c.answer.new.core.history.room (ap is_some plan) c.answer.ensures.room c.requires.room (plain_of g.O.Operation.cmd_is c.answer.new.core) world)
