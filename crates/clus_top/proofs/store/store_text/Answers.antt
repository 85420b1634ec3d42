use Rattle.std.proofs.Common.{refl}
use Rattle.run_engine.proofs.Given.{script_has, image_has, image_stays}
use Rattle.run_engine.proofs.Results.{if_err}
use Rattle.clus_top.proofs.Keeping.{end_of, text_end}
use Rattle.clus_top.proofs.store.store_text.Goals as goal

pub returns-in-Ok-clause-end : goal.returns-in-Ok-clause-end
returns-in-Ok-clause-end g c =
    let size = g.I.ImageDev.size c.args.image in
    if_err c.store_image.result.outcome _ _
    (λ s h. script_has (g.T.TextIn.left c.args.script.now) _ _
    (λ bytes read_as. image_has size (g.I.ImageDev.told c.args.image) (g.I.ImageDev.told c.store_image.result.image) _ _
    (λ old new e. end_of c.args.n c.args.seq c.in-Ok.lines bytes read_as size old new (g.T.TextIn.faults c.args.script.now) (g.T.TextIn.faults c.lines_of.new.script)
    (g.I.ImageDev.faults c.args.image) (g.I.ImageDev.faults c.store_image.result.image) s e) h)
    c.in-Ok.ensures.lines)
    c.store_image.ensures.end

pub returns-in-Err-clause-end : goal.returns-in-Err-clause-end
returns-in-Err-clause-end g c =
    script_has (g.T.TextIn.left c.args.script.now) _ _
    (λ bytes h. image_stays (g.I.ImageDev.size c.args.image) (g.I.ImageDev.told c.args.image) (g.I.ImageDev.told c.args.image) _ (g.met.I.ImageDev.counted c.args.image) refl
    (λ bs count. text_end c.args.n c.args.seq bytes (g.I.ImageDev.size c.args.image) bs (g.T.TextIn.faults c.args.script.now) (g.T.TextIn.faults c.lines_of.new.script)
    (g.I.ImageDev.faults c.args.image) (g.I.ImageDev.faults c.args.image) c.in-Err.status h))
    c.in-Err.ensures.end
