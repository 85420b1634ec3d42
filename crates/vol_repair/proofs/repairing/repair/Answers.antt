use Rattle.std.proofs.lemmas.Result.{err_from_is_err_and}
use Rattle.vol_repair.proofs.Keepings.{mendable_at, keeps_first}
use Rattle.vol_repair.proofs.Answering.{nothing_done}
use Rattle.vol_repair.proofs.repairing.repair.Goals as goal

pub returns-in_err-found-clause-step : goal.returns-in_err-found-clause-step
returns-in_err-found-clause-step g c =
    let p = err_from_is_err_and c.from_residual.result c.from_residual.ensures.1 in
    nothing_done _ _ _ c.from_residual.result _ p.1 p.2 (keeps_first c.touched_keeps.ensures c.args.m.now.blocks c.drive_is_whole.ensures.size)

pub repair_mendable-requires-clause-mendable : goal.repair_mendable-requires-clause-mendable
repair_mendable-requires-clause-mendable g c =
    mendable_at c.home_of-home.result c.args.m.now.blocks c.all-2.result.now c.all.result.now c.in_ok-found.field-0 c.all-2.ensures c.all.ensures c.home_of-home.ensures.read c.drive_is_whole.ensures.size c.in_default.is c.in_ok-found.ensures
