use Rattle.std.proofs.Common.{refl}
use Rattle.run_engine.proofs.Given.{script_has, image_has, image_stays}
use Rattle.run_engine.proofs.Results.{if_err, if_ok, both_ok}
use Rattle.clus_top.proofs.Jobs.{reported, run_stop, script_end}
use Rattle.clus_top.proofs.run_job.run_script.Goals as goal

pub returns-in-Ok-clause-report : goal.returns-in-Ok-clause-report
returns-in-Ok-clause-report g c =
    if_ok c.run_image.result.outcome _ _
    (λ text h. script_has (g.T.TextIn.left c.args.script.now) _ _
    (λ bytes spelt. image_has (g.I.ImageDev.size c.args.image) (g.I.ImageDev.told c.args.image) (g.I.ImageDev.told c.run_image.result.image) _ _
    (λ old new e. reported bytes c.in-Ok.spelt spelt (g.I.ImageDev.size c.args.image) old new text.items h.0 e) h.1)
    c.in-Ok.ensures.spelt)
    (both_ok c.run_image.result.outcome _ _ c.run_image.ensures.inside c.run_image.ensures.report)

pub returns-in-Ok-clause-end : goal.returns-in-Ok-clause-end
returns-in-Ok-clause-end g c =
    if_err c.run_image.result.outcome _ _
    (λ s h. script_has (g.T.TextIn.left c.args.script.now) _ _
    (λ bytes spelt. image_has (g.I.ImageDev.size c.args.image) (g.I.ImageDev.told c.args.image) (g.I.ImageDev.told c.run_image.result.image) _ _
    (λ old new e. run_stop bytes c.in-Ok.spelt spelt (g.I.ImageDev.size c.args.image) old new (g.T.TextIn.faults c.args.script.now) (g.T.TextIn.faults c.script_of.new.script)
    (g.I.ImageDev.faults c.args.image) (g.I.ImageDev.faults c.run_image.result.image) (g.I.ImageDev.lost c.args.image) (g.I.ImageDev.lost c.run_image.result.image) s e) h)
    c.in-Ok.ensures.spelt)
    c.run_image.ensures.end

pub returns-in-Err-clause-end : goal.returns-in-Err-clause-end
returns-in-Err-clause-end g c =
    script_has (g.T.TextIn.left c.args.script.now) _ _
    (λ bytes h. image_stays (g.I.ImageDev.size c.args.image) (g.I.ImageDev.told c.args.image) (g.I.ImageDev.told c.args.image) _ (g.met.I.ImageDev.counted c.args.image) refl
    (λ bs count. script_end bytes (g.I.ImageDev.size c.args.image) bs (g.T.TextIn.faults c.args.script.now) (g.T.TextIn.faults c.script_of.new.script) (g.I.ImageDev.faults c.args.image) (g.I.ImageDev.faults c.args.image) (g.I.ImageDev.lost c.args.image) (g.I.ImageDev.lost c.args.image) c.in-Err.status h))
    c.in-Err.ensures.end
