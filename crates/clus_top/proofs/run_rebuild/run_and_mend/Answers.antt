use Rattle.std.proofs.Common.{refl, inl}
use Rattle.run_engine.proofs.Given.{script_has, image_has, image_stays}
use Rattle.run_engine.proofs.Results.{if_err, if_ok, both_ok}
use Rattle.clus_top.proofs.Halting.{mended_with, run_halt}
use Rattle.clus_top.proofs.Jobs.{script_end}
use Rattle.clus_top.proofs.run_rebuild.run_and_mend.Goals as goal

pub returns-in-Ok-clause-report : goal.returns-in-Ok-clause-report
returns-in-Ok-clause-report g c =
    if_ok c.mend_image.result.outcome _ _
    (λ text h. script_has (g.T.TextIn.left c.args.script.now) _ _
    (λ bytes spelt. image_has (g.I.ImageDev.size c.args.image) (g.I.ImageDev.told c.args.image) (g.I.ImageDev.told c.mend_image.result.image) _ _
    (λ old new e. mended_with bytes c.in-Ok.spelt spelt (g.I.ImageDev.size c.args.image) old new text.items h.0 e) h.1)
    c.in-Ok.ensures.spelt)
    (both_ok c.mend_image.result.outcome _ _ c.mend_image.ensures.inside c.mend_image.ensures.report)

pub returns-in-Ok-clause-halt : goal.returns-in-Ok-clause-halt
returns-in-Ok-clause-halt g c =
    if_err c.mend_image.result.outcome _ _
    (λ x h. script_has (g.T.TextIn.left c.args.script.now) _ _
    (λ bytes spelt. image_has (g.I.ImageDev.size c.args.image) (g.I.ImageDev.told c.args.image) (g.I.ImageDev.told c.mend_image.result.image) _ _
    (λ old new e. run_halt bytes c.in-Ok.spelt spelt (g.I.ImageDev.size c.args.image) old new (g.T.TextIn.faults c.args.script.now) (g.T.TextIn.faults c.script_of.new.script)
    (g.I.ImageDev.faults c.args.image) (g.I.ImageDev.faults c.mend_image.result.image) (g.I.ImageDev.lost c.args.image) (g.I.ImageDev.lost c.mend_image.result.image) x e) h)
    c.in-Ok.ensures.spelt)
    c.mend_image.ensures.halt

pub returns-in-Err-clause-halt : goal.returns-in-Err-clause-halt
returns-in-Err-clause-halt g c =
    script_has (g.T.TextIn.left c.args.script.now) _ _
    (λ bytes h. image_stays (g.I.ImageDev.size c.args.image) (g.I.ImageDev.told c.args.image) (g.I.ImageDev.told c.args.image) _ (g.met.I.ImageDev.counted c.args.image) refl
    (λ bs count. inl (script_end bytes (g.I.ImageDev.size c.args.image) bs (g.T.TextIn.faults c.args.script.now) (g.T.TextIn.faults c.script_of.new.script) (g.I.ImageDev.faults c.args.image) (g.I.ImageDev.faults c.args.image) (g.I.ImageDev.lost c.args.image) (g.I.ImageDev.lost c.args.image) c.in-Err.status h)))
    c.in-Err.ensures.end
