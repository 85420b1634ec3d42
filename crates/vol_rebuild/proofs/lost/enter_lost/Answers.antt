use Rattle.std.proofs.Common.{refl}
use Rattle.std.proofs.lemmas.Result.{err_from_is_err_and}
use Rattle.vol_rebuild.proofs.Stepping.{first_well, next_well, next_out, ends_well}
use Rattle.vol_rebuild.proofs.Reading.{few_files}
use Rattle.vol_rebuild.proofs.lost.enter_lost.Goals as goal

pub lost_files-requires : goal.lost_files-requires
lost_files-requires g c = few_files c.args.g.now c.args.m.now.blocks c.args.cat.now c.requires.told

pub returns-in_err-empty-clause-step : goal.returns-in_err-empty-clause-step
returns-in_err-empty-clause-step g c =
    let p = err_from_is_err_and c.from_residual-in_err-empty.result c.from_residual-in_err-empty.ensures.1 in
    next_out _ _ _ _ _ _ _ _ _ _ _ _ _ refl p.1 p.2 (first_well _ _ _ _ _ _ _ _ refl c.in_ok-full.ensures.step) c.in_err-empty.ensures.step

pub returns-clause-step : goal.returns-clause-step
returns-clause-step g c = ends_well _ _ _ _ _ _ _ _ refl (next_well _ _ _ _ _ _ _ _ _ _ _ refl (first_well _ _ _ _ _ _ _ _ refl c.in_ok-full.ensures.step) c.in_ok-empty.ensures.step)
