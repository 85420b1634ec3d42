use Rattle.std.proofs.Common.{refl}
use Rattle.std.proofs.lemmas.Result.{err_from_is_err_and}
use Rattle.vol_repair.proofs.Answering.{repaired, roomless, room_same, answered, both_well}
use Rattle.vol_repair.proofs.Stepping.{first_well}
use Rattle.vol_repair.proofs.repairing.repair_mendable.Goals as goal

pub returns-in_err-mended-clause-roomless : goal.returns-in_err-mended-clause-roomless
returns-in_err-mended-clause-roomless g c f e =
    let home = c.args.home.now in
    let first = c.args.m.now.blocks in
    let p = err_from_is_err_and c.from_residual-in_err-mended.result c.from_residual-in_err-mended.ensures.1 in
    roomless home first c.prepare.new.m.blocks c.finish.new.m.blocks f c.in_ok-slots.ensures.ok
    (c.in_err-mended.ensures.stuck home first f c.in_ok-slots.ensures.ok (room_same c.from_residual-in_err-mended.result _ _ f p.1 p.2 e))

pub returns-in_err-mended-clause-step : goal.returns-in_err-mended-clause-step
returns-in_err-mended-clause-step g c =
    let p = err_from_is_err_and c.from_residual-in_err-mended.result c.from_residual-in_err-mended.ensures.1 in
    answered _ _ _ _ _ _ _ _ _ _ _ _ p.1 p.2 (first_well _ _ _ _ _ _ _ _ refl c.in_ok-slots.ensures.step)
    (c.in_err-mended.ensures.step c.args.home.now c.args.m.now.blocks c.in_ok-slots.ensures.ok)

pub returns-clause-repaired : goal.returns-clause-repaired
returns-clause-repaired g c =
    let home = c.args.home.now in
    let first = c.args.m.now.blocks in
    repaired home first c.prepare.new.m.blocks c.finish.new.m.blocks c.in_ok-slots.slots c.in_ok-mended.mended c.in_ok-slots.ensures.ok c.in_ok-slots.ensures.slots
    (c.in_ok-mended.ensures.finished home first c.in_ok-slots.ensures.ok)

pub returns-clause-step : goal.returns-clause-step
returns-clause-step g c =
    both_well _ _ _ _ _ _ _ _ _ _ _ (first_well _ _ _ _ _ _ _ _ refl c.in_ok-slots.ensures.step) (c.in_ok-mended.ensures.step c.args.home.now c.args.m.now.blocks c.in_ok-slots.ensures.ok)
