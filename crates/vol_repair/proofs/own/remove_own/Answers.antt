use Rattle.std.proofs.Common.{◌∙◌, refl}
use Rattle.std.proofs.lemmas.Result.{err_from_is_err_and, on_ok_weaker}
use Rattle.vol_repair.specs.Removing.{is_double}
use Rattle.vol_repair.proofs.Stepping.{lacking}
use Rattle.vol_repair.proofs.Departing.{tells_so}
use Rattle.vol_repair.proofs.Leavers.{all_named, own_is_left}
use Rattle.vol_repair.proofs.own.remove_own.Goals as goal

pub returns-in_err-leavers-clause-step : goal.returns-in_err-leavers-clause-step
returns-in_err-leavers-clause-step g c =
    let p = err_from_is_err_and c.from_residual.result c.from_residual.ensures.1 in
    lacking _ _ _ _ _ p.1 p.2 (tells_so c.args.g.now c.args.m.now.blocks c.args.cat.now c.args.cat.now c.requires.told refl)

pub returns-clause-cat : goal.returns-clause-cat
returns-clause-cat g c = on_ok_weaker c.remove_entries.result (λ is.
    is
    ∙ (all_named c.args.g.now c.args.m.now.blocks c.requires.told.own c.args.cat.now c.requires.told.spelt is_double _ c.in_ok-leavers.leavers.items c.as_slice.ensures.value c.in_ok-leavers.ensures
    ∙ own_is_left c.args.cat.now)) c.remove_entries.ensures.cat
