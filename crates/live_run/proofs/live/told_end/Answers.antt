use Rattle.std.proofs.Common.{IfErr, sym, subst}
use Rattle.live_run.specs.Ends.{IsHaltAfter}
use Rattle.run_engine.proofs.Results.{if_err}
use Rattle.live_run.proofs.live.told_end.Goals as goal

pub returns-in-Ok-clause-halt : goal.returns-in-Ok-clause-halt
returns-in-Ok-clause-halt g c =
    let told = g.I.ImageDev.told in
    let faults = g.I.ImageDev.faults in
    subst (λ r. IfErr c.told_over.result.outcome (IsHaltAfter c.args.job c.args.w.world r (told c.args.w.image) (told c.told_over.result.image) (faults c.args.w.image) (faults c.told_over.result.image)))
    (sym c.in-Ok.is) (if_err c.told_over.result.outcome _ _ (λ x h. h) c.told_over.ensures.halt)
