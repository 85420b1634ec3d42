use Rattle.std.proofs.Common.{refl, inl}
use Rattle.run_engine.proofs.Given.{image_has, image_stays}
use Rattle.run_engine.proofs.Results.{if_err, if_ok, both_ok}
use Rattle.clus_top.proofs.Jobs.{summarized, soak_stop}
use Rattle.clus_top.proofs.run_job.run_soak.Goals as goal

pub returns-in-Ok-clause-summary : goal.returns-in-Ok-clause-summary
returns-in-Ok-clause-summary g c =
    if_ok c.run_image.result.outcome _ _
    (λ text h. image_has (g.I.ImageDev.size c.args.image) (g.I.ImageDev.told c.args.image) (g.I.ImageDev.told c.run_image.result.image) _ _
    (λ old new e. summarized c.args.n c.in-Ok.drawn c.in-Ok.ensures.script (g.I.ImageDev.size c.args.image) old new text.items h.0 e) h.1)
    (both_ok c.run_image.result.outcome _ _ c.run_image.ensures.inside c.run_image.ensures.report)

pub returns-in-Ok-clause-end : goal.returns-in-Ok-clause-end
returns-in-Ok-clause-end g c =
    if_err c.run_image.result.outcome _ _
    (λ s h. image_has (g.I.ImageDev.size c.args.image) (g.I.ImageDev.told c.args.image) (g.I.ImageDev.told c.run_image.result.image) _ _
    (λ old new e. soak_stop c.args.n c.in-Ok.drawn c.in-Ok.ensures.script (g.I.ImageDev.size c.args.image) old new (g.I.ImageDev.faults c.args.image) (g.I.ImageDev.faults c.run_image.result.image) (g.I.ImageDev.lost c.args.image) (g.I.ImageDev.lost c.run_image.result.image) s e) h)
    c.run_image.ensures.end

pub returns-in-Err-clause-end : goal.returns-in-Err-clause-end
returns-in-Err-clause-end g c =
    image_stays (g.I.ImageDev.size c.args.image) (g.I.ImageDev.told c.args.image) (g.I.ImageDev.told c.args.image) _ (g.met.I.ImageDev.counted c.args.image) refl (λ bs count. inl refl)
