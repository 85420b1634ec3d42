use Rattle.std.proofs.Common.{◌++◌, refl}
use Rattle.core_state.specs.Worlds.{state_of}
use Rattle.core_step.proofs.Returning.{writes_are, may_asked, may_claims, may_rest, all_given}
use Rattle.core_step.proofs.answers.give_all.Goals as goal

pub put_back_all-requires-clause-may : goal.put_back_all-requires-clause-may
put_back_all-requires-clause-may g c =
    let s = state_of g.O.Operation.cmd_is c.args.at.now in
    let ws = writes_are s c.in-Some.plan c.items-takes.result.now c.writes_by-writes.result.now c.in-Some.is c.items-takes.ensures c.writes_by-writes.ensures in
    may_asked c.args.g.now c.args.node s c.args.locks.now (c.items-takes.result.now ++ c.writes_by-writes.result.now) c.items.result.now s.claims s.kept _ ws c.items.ensures refl refl refl c.requires.may

pub put_back_all-requires-2-clause-may : goal.put_back_all-requires-2-clause-may
put_back_all-requires-2-clause-may g c =
    let s = state_of g.O.Operation.cmd_is c.args.at.now in
    let ws = writes_are s c.in-Some.plan c.items-takes.result.now c.writes_by-writes.result.now c.in-Some.is c.items-takes.ensures c.writes_by-writes.ensures in
    may_claims c.args.g.now c.args.node s c.args.locks.now (c.items-takes.result.now ++ c.writes_by-writes.result.now) c.items.result.now c.items-2.result.now s.kept _ ws c.items.ensures c.items-2.ensures refl refl c.requires.may
    c.put_back_all.new.locks c.put_back_all.ensures

pub give_back_going-requires-clause-may : goal.give_back_going-requires-clause-may
give_back_going-requires-clause-may g c =
    let s = state_of g.O.Operation.cmd_is c.args.at.now in
    let ws = writes_are s c.in-Some.plan c.items-takes.result.now c.writes_by-writes.result.now c.in-Some.is c.items-takes.ensures c.writes_by-writes.ensures in
    may_rest c.args.g.now c.args.node s c.args.locks.now (c.items-takes.result.now ++ c.writes_by-writes.result.now) c.items.result.now c.items-2.result.now c.items-3.result.now c.has_any-stocked.result ws c.items.ensures c.items-2.ensures c.items-3.ensures c.has_any-stocked.ensures c.requires.may
    c.put_back_all.new.locks c.put_back_all-2.new.locks c.put_back_all.ensures c.put_back_all-2.ensures

pub returns : goal.returns
returns g c =
    let s = state_of g.O.Operation.cmd_is c.args.at.now in
    let ws = writes_are s c.in-Some.plan c.items-takes.result.now c.writes_by-writes.result.now c.in-Some.is c.items-takes.ensures c.writes_by-writes.ensures in
    all_given c.args.g.now c.args.node s c.args.locks.now (c.items-takes.result.now ++ c.writes_by-writes.result.now) c.items.result.now c.items-2.result.now c.items-3.result.now c.has_any-stocked.result ws c.items.ensures c.items-2.ensures c.items-3.ensures c.has_any-stocked.ensures c.requires.may
    c.put_back_all.new.locks c.put_back_all-2.new.locks c.give_back_going.new.locks c.put_back_all.ensures c.put_back_all-2.ensures c.give_back_going.ensures
