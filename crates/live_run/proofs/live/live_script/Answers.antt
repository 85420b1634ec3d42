use Rattle.std.proofs.Common.{refl}
use Rattle.run_engine.proofs.Given.{script_has, image_has, image_stays}
use Rattle.run_engine.proofs.Results.{if_err, if_ok, both_ok}
use Rattle.live_run.proofs.Jobs.{reported, run_halt, script_end}
use Rattle.live_run.proofs.live.live_script.Goals as goal

pub returns-in-Ok-clause-report : goal.returns-in-Ok-clause-report
returns-in-Ok-clause-report g c =
    if_ok c.live_image.result.outcome _ _
    (λ text h. script_has (g.T.TextIn.left c.args.script.now) _ _
    (λ bytes spelt. image_has (g.I.ImageDev.size c.args.image) (g.I.ImageDev.told c.args.image) (g.I.ImageDev.told c.live_image.result.image) _ _
    (λ old new e. reported c.args.job bytes c.in-Ok.spelt spelt (g.I.ImageDev.size c.args.image) old new text.items h.0 e) h.1)
    c.in-Ok.ensures.spelt)
    (both_ok c.live_image.result.outcome _ _ c.live_image.ensures.inside c.live_image.ensures.ended)

pub returns-in-Ok-clause-halt : goal.returns-in-Ok-clause-halt
returns-in-Ok-clause-halt g c =
    if_err c.live_image.result.outcome _ _
    (λ x h. script_has (g.T.TextIn.left c.args.script.now) _ _
    (λ bytes spelt. image_has (g.I.ImageDev.size c.args.image) (g.I.ImageDev.told c.args.image) (g.I.ImageDev.told c.live_image.result.image) _ _
    (λ old new e. run_halt c.args.job bytes c.in-Ok.spelt spelt (g.I.ImageDev.size c.args.image) old new (g.T.TextIn.faults c.args.script.now) (g.T.TextIn.faults c.script_of.new.script)
    (g.I.ImageDev.faults c.args.image) (g.I.ImageDev.faults c.live_image.result.image) (g.I.ImageDev.lost c.args.image) (g.I.ImageDev.lost c.live_image.result.image) x e) h)
    c.in-Ok.ensures.spelt)
    c.live_image.ensures.halt

pub returns-in-Err-clause-halt : goal.returns-in-Err-clause-halt
returns-in-Err-clause-halt g c =
    script_has (g.T.TextIn.left c.args.script.now) _ _
    (λ bytes h. image_stays (g.I.ImageDev.size c.args.image) (g.I.ImageDev.told c.args.image) (g.I.ImageDev.told c.args.image) _ c.blocks_are_counted.ensures refl
    (λ bs count. script_end c.args.job bytes (g.I.ImageDev.size c.args.image) bs (g.T.TextIn.faults c.args.script.now) (g.T.TextIn.faults c.script_of.new.script) (g.I.ImageDev.faults c.args.image) (g.I.ImageDev.faults c.args.image) (g.I.ImageDev.lost c.args.image) (g.I.ImageDev.lost c.args.image) c.in-Err.status h))
    c.in-Err.ensures.end
