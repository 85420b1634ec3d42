use Rattle.std.proofs.Common.{None, true, false, refl, sym, ap, subst, ◌∙◌, rules}
use Rattle.op_law.specs.declared.need.Need.TheVariants as need
use Rattle.core_state.specs.Worlds.{plain_of}
use Rattle.core_state.specs.Goods.{HasRoom}
use Rattle.core_step.specs.Memory.{takes_none}
use Rattle.core_step.proofs.Ready.{event_need, has_plan, may_lock, lock_apart, fetch_within, lock_room, fetch_room, plan_room, lock_told, goes_granted, goes_queued}
use Rattle.core_step.proofs.Outcomes.{quiet, lacking, still_room, more_room}
use Rattle.core_step.proofs.step.by_need.Goals as goal

pub lock-requires-clause-may : goal.lock-requires-clause-may
lock-requires-clause-may g c =
    let is = c.requires.needs c.requires.ready.state c.requires.ready.cmd c.requires.ready.at c.requires.ready.has ∙ c.in-Lock.is in
    may_lock c.requires.good c.requires.ready c.requires.plan c.in-Lock.name c.in-Lock.mode is

pub lock-requires-clause-apart : goal.lock-requires-clause-apart
lock-requires-clause-apart g c =
    let is = c.requires.needs c.requires.ready.state c.requires.ready.cmd c.requires.ready.at c.requires.ready.has ∙ c.in-Lock.is in
    lock_apart c.requires.good c.requires.ready c.requires.plan c.in-Lock.name c.in-Lock.mode is

pub fetch-requires-clause-within : goal.fetch-requires-clause-within
fetch-requires-clause-within g c =
    let is = c.requires.needs c.requires.ready.state c.requires.ready.cmd c.requires.ready.at c.requires.ready.has ∙ c.in-Bare.is in
    fetch_within c.requires.good c.requires.ready c.in-Bare.lbn is

pub returns-in_err-lock-in-Lock : goal.returns-in_err-lock-in-Lock
returns-in_err-lock-in-Lock g c =
    let is = c.requires.needs c.requires.ready.state c.requires.ready.cmd c.requires.ready.at c.requires.ready.has ∙ c.in-Lock.is in
    lacking _ (search rules) c.in_err-lock-in-Lock.ensures.same (ap (takes_none c.args.core.now.locks c.args.node) (event_need c.requires.good c.requires.ready c.requires.plan (need.Lock c.in-Lock.name c.in-Lock.mode) is).event) (ap (λ m. m.image) c.in_err-lock-in-Lock.ensures.mirror) (still_room c.in_err-lock-in-Lock.ensures.same c.in_err-lock-in-Lock.ensures.room c.requires.room)

pub returns-in_err-fetch-in-Bare : goal.returns-in_err-fetch-in-Bare
returns-in_err-fetch-in-Bare g c =
    let is = c.requires.needs c.requires.ready.state c.requires.ready.cmd c.requires.ready.at c.requires.ready.has ∙ c.in-Bare.is in
    lacking _ (search rules) c.in_err-fetch-in-Bare.ensures.same (ap (takes_none c.args.core.now.locks c.args.node) (event_need c.requires.good c.requires.ready c.requires.plan (need.Bare c.in-Bare.lbn) is).event) (ap (λ m. m.image) c.in_err-fetch-in-Bare.ensures.mirror) (still_room c.in_err-fetch-in-Bare.ensures.same c.in_err-fetch-in-Bare.ensures.room c.requires.room)

pub returns-in_err-plan-in-Ready : goal.returns-in_err-plan-in-Ready
returns-in_err-plan-in-Ready g c =
    let is = c.requires.needs c.requires.ready.state c.requires.ready.cmd c.requires.ready.at c.requires.ready.has ∙ c.in-Ready.is in
    lacking _ (search rules) c.in_err-plan-in-Ready.ensures.same (ap (takes_none c.args.core.now.locks c.args.node) (event_need c.requires.good c.requires.ready c.requires.plan (need.Ready c.in-Ready.made) is).event) (ap (λ m. m.image) c.in_err-plan-in-Ready.ensures.mirror) (more_room c.in_err-plan-in-Ready.ensures.same c.in_err-plan-in-Ready.ensures.room c.requires.room)

pub returns-in-Granted : goal.returns-in-Granted
returns-in-Granted g c =
    let is = c.requires.needs c.requires.ready.state c.requires.ready.cmd c.requires.ready.at c.requires.ready.has ∙ c.in-Lock.is in
    let world = c.in_ok-lock-in-Lock.ensures.world in
    quiet _ (event_need c.requires.good c.requires.ready c.requires.plan (need.Lock c.in-Lock.name c.in-Lock.mode) is) world
    (lock_told c.requires.good c.requires.ready c.requires.plan c.in-Lock.name c.in-Lock.mode is true (goes_granted _ c.in_ok-lock-in-Lock.field-0 c.in_ok-lock-in-Lock.ensures.answer c.in-Granted.is) (plain_of g.O.Operation.cmd_is c.lock.new.core) world)
    (ap (λ m. m.image) c.in_ok-lock-in-Lock.ensures.mirror) (ap (λ m. m.blocks) c.in_ok-lock-in-Lock.ensures.mirror)
    (subst (λ k. HasRoom (plain_of g.O.Operation.cmd_is c.lock.new.core) k) (sym c.in_ok-lock-in-Lock.ensures.room) (lock_room c.requires.good c.requires.ready c.in-Lock.name c.in-Lock.mode c.args.core.now.history.room c.requires.room (plain_of g.O.Operation.cmd_is c.lock.new.core) world))

pub returns-in-Queued : goal.returns-in-Queued
returns-in-Queued g c =
    let is = c.requires.needs c.requires.ready.state c.requires.ready.cmd c.requires.ready.at c.requires.ready.has ∙ c.in-Lock.is in
    let world = c.in_ok-lock-in-Lock.ensures.world in
    quiet _ (event_need c.requires.good c.requires.ready c.requires.plan (need.Lock c.in-Lock.name c.in-Lock.mode) is) world
    (lock_told c.requires.good c.requires.ready c.requires.plan c.in-Lock.name c.in-Lock.mode is false (goes_queued _ c.in_ok-lock-in-Lock.field-0 c.in_ok-lock-in-Lock.ensures.answer c.in-Queued.is) (plain_of g.O.Operation.cmd_is c.lock.new.core) world)
    (ap (λ m. m.image) c.in_ok-lock-in-Lock.ensures.mirror) (ap (λ m. m.blocks) c.in_ok-lock-in-Lock.ensures.mirror)
    (subst (λ k. HasRoom (plain_of g.O.Operation.cmd_is c.lock.new.core) k) (sym c.in_ok-lock-in-Lock.ensures.room) (lock_room c.requires.good c.requires.ready c.in-Lock.name c.in-Lock.mode c.args.core.now.history.room c.requires.room (plain_of g.O.Operation.cmd_is c.lock.new.core) world))

pub returns-in_ok-fetch-in-Bare : goal.returns-in_ok-fetch-in-Bare
returns-in_ok-fetch-in-Bare g c =
    let is = c.requires.needs c.requires.ready.state c.requires.ready.cmd c.requires.ready.at c.requires.ready.has ∙ c.in-Bare.is in
    let world = c.in_ok-fetch-in-Bare.ensures.world in
    quiet _ (event_need c.requires.good c.requires.ready c.requires.plan (need.Bare c.in-Bare.lbn) is) world refl (ap (λ m. m.image) c.in_ok-fetch-in-Bare.ensures.mirror) (ap (λ m. m.blocks) c.in_ok-fetch-in-Bare.ensures.mirror)
    (subst (λ k. HasRoom (plain_of g.O.Operation.cmd_is c.fetch.new.core) k) (sym c.in_ok-fetch-in-Bare.ensures.room) (fetch_room c.requires.good c.requires.ready c.in-Bare.lbn c.args.core.now.history.room c.requires.room (plain_of g.O.Operation.cmd_is c.fetch.new.core) world))

pub returns-in_ok-plan-in-Ready : goal.returns-in_ok-plan-in-Ready
returns-in_ok-plan-in-Ready g c =
    let is = c.requires.needs c.requires.ready.state c.requires.ready.cmd c.requires.ready.at c.requires.ready.has ∙ c.in-Ready.is in
    let world = c.in_ok-plan-in-Ready.ensures.world in
    quiet _ (event_need c.requires.good c.requires.ready c.requires.plan (need.Ready c.in-Ready.made) is) world refl (ap (λ m. m.image) c.in_ok-plan-in-Ready.ensures.mirror) (ap (λ m. m.blocks) c.in_ok-plan-in-Ready.ensures.mirror)
    (plan_room c.requires.good c.requires.ready c.in-Ready.made c.args.core.now.history.room c.plan.new.core.history.room (has_plan c.requires.good c.requires.ready None c.requires.plan) c.in_ok-plan-in-Ready.ensures.place c.requires.room (plain_of g.O.Operation.cmd_is c.plan.new.core) world)

pub by_look-requires-clause-needs : goal.by_look-requires-clause-needs
by_look-requires-clause-needs g c s x at has =
    c.requires.needs s x at has ∙ c.in-Block.is

pub by_space-requires-clause-needs : goal.by_space-requires-clause-needs
by_space-requires-clause-needs g c s x at has =
    c.requires.needs s x at has ∙ c.in-Space.is

pub by_space-requires-clause-lacks : goal.by_space-requires-clause-lacks
by_space-requires-clause-lacks g c s k b at e =
    c.requires.lacks s k b at (c.in-Space.is ∙ e)
