use Rattle.std.proofs.Common.{ap}
use Rattle.run_engine.proofs.Results.{if_err, if_ok}
use Rattle.live_run.proofs.live.report_over.Goals as goal

pub returns-clause-told : goal.returns-clause-told
returns-clause-told g c =
    let same = ap (λ (i : g.row.I.Denot). g.I.ImageDev.told i) c.image_of.ensures in
    if_ok c.reported-outcome.result _ _ (λ text h. (same, h)) c.reported-outcome.ensures.report

pub returns-clause-halt : goal.returns-clause-halt
returns-clause-halt g c =
    let same = ap (λ (i : g.row.I.Denot). g.I.ImageDev.told i) c.image_of.ensures in
    if_err c.reported-outcome.result _ _ (λ x h. (same, h)) c.reported-outcome.ensures.end
