use Rattle.std.proofs.Common.{Option, subst}
use Rattle.core_step.specs.declared.turns.TurnFault.{TurnFault}
use Rattle.node_seat.specs.Keeping.{IsKept}
use Rattle.live_run.proofs.Rested.{ran_kept}
use Rattle.live_run.proofs.rest.finish.Goals as goal

pub returns-in-None-clause-kept : goal.returns-in-None-clause-kept
returns-in-None-clause-kept g c start k =
    let old = c.args.closed.now.world.world in
    let f = g.I.ImageDev.faults c.args.closed.now.world.image in
    let told = g.I.ImageDev.told c.args.closed.now.world.image in
    let now = subst (λ (m : Option TurnFault). IsKept start old f told m) c.in-None.is k in
    let e = c.run-in-None.ensures in
    ran_kept start old c.run-in-None.new.w.world f (g.I.ImageDev.faults c.run-in-None.new.w.image) told (g.I.ImageDev.told c.run-in-None.new.w.image) now e.later _ c.run-in-None.result e.ok e.err e.cause e.before e.drive
