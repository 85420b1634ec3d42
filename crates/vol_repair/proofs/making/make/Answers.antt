-- One write.
use Rattle.std.proofs.Common.{refl}
use Rattle.std.proofs.lemmas.Result.{err_from_is_err_and}
use Rattle.vol_repair.proofs.Stepping.{wrote, failed}
use Rattle.vol_repair.proofs.making.make.Goals as goal

pub returns-in_err-write-clause-step : goal.returns-in_err-write-clause-step
returns-in_err-write-clause-step g c a before behind =
    let p = err_from_is_err_and c.from_residual.result c.from_residual.ensures.1 in
    rw (p.1, p.2) (failed _ _ c.args.lbn c.args.b.now _ _ _ _ _ before behind c.in_err-write.ensures.same c.in_err-write.ensures.failed c.in_err-write.ensures.cause.later c.in_err-write.ensures.cause.failed refl)

pub returns-clause-step : goal.returns-clause-step
returns-clause-step g c a before behind =
    wrote _ _ c.args.lbn c.args.b.now _ _ _ _ _ before behind c.in_ok-write.ensures.ok c.in_ok-write.ensures.image c.in_ok-write.ensures.cause.later (λ e. absurd (cc e))
