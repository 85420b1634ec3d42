use Rattle.std.proofs.lemmas.Result.{err_from_is_err_and}
use Rattle.vol_repair.proofs.Keepings.{touched_none}
use Rattle.vol_repair.proofs.Stepping.{lacking}
use Rattle.vol_repair.proofs.phases.begin.Goals as goal

pub returns-in_err-sound-clause-step : goal.returns-in_err-sound-clause-step
returns-in_err-sound-clause-step g c =
    let p = err_from_is_err_and c.from_residual.result c.from_residual.ensures.1 in
    lacking _ _ _ c.from_residual.result _ p.1 p.2 (touched_none c.args.home.now c.args.m.now.blocks)

pub returns-in_err-kept-clause-step : goal.returns-in_err-kept-clause-step
returns-in_err-kept-clause-step g c =
    let p = err_from_is_err_and c.from_residual-in_err-kept.result c.from_residual-in_err-kept.ensures.1 in
    lacking _ _ _ c.from_residual-in_err-kept.result _ p.1 p.2 (touched_none c.args.home.now c.args.m.now.blocks)
