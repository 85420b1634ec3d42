use Rattle.std.proofs.Common.{refl}
use Rattle.run_engine.proofs.Given.{script_has, image_has, image_stays}
use Rattle.run_engine.proofs.Results.{if_err, if_ok}
use Rattle.clus_top.proofs.Jobs.{script_end}
use Rattle.run_trace.proofs.Traces.{traced_of, halt_of}
use Rattle.run_trace.proofs.tracing.trace_script.Goals as goal

pub returns-in-Ok-clause-text : goal.returns-in-Ok-clause-text
returns-in-Ok-clause-text g c =
    if_ok c.trace_image.result.outcome _ _
    (λ text h. script_has (g.T.TextIn.left c.args.script.now) _ _
    (λ bytes spelt. image_has (g.I.ImageDev.size c.args.image) (g.I.ImageDev.told c.args.image) (g.I.ImageDev.told c.trace_image.result.image) _ _
    (λ old new e. traced_of bytes c.in-Ok.spelt spelt (g.I.ImageDev.size c.args.image) old new c.args.ending text.items e) h)
    c.in-Ok.ensures.spelt)
    c.trace_image.ensures.text

pub returns-in-Ok-clause-halt : goal.returns-in-Ok-clause-halt
returns-in-Ok-clause-halt g c =
    if_err c.trace_image.result.outcome _ _
    (λ x h. script_has (g.T.TextIn.left c.args.script.now) _ _
    (λ bytes spelt. image_has (g.I.ImageDev.size c.args.image) (g.I.ImageDev.told c.args.image) (g.I.ImageDev.told c.trace_image.result.image) _ _
    (λ old new e. halt_of bytes c.in-Ok.spelt spelt (g.I.ImageDev.size c.args.image) old new c.args.ending (g.T.TextIn.faults c.args.script.now) (g.T.TextIn.faults c.script_of.new.script)
    (g.I.ImageDev.faults c.args.image) (g.I.ImageDev.faults c.trace_image.result.image) x e) h)
    c.in-Ok.ensures.spelt)
    c.trace_image.ensures.halt

pub returns-in-Err-clause-halt : goal.returns-in-Err-clause-halt
returns-in-Err-clause-halt g c =
    script_has (g.T.TextIn.left c.args.script.now) _ _
    (λ bytes h. image_stays (g.I.ImageDev.size c.args.image) (g.I.ImageDev.told c.args.image) (g.I.ImageDev.told c.args.image) _ (g.met.I.ImageDev.counted c.args.image) refl
    (λ bs count. (script_end bytes (g.I.ImageDev.size c.args.image) bs (g.T.TextIn.faults c.args.script.now) (g.T.TextIn.faults c.script_of.new.script) (g.I.ImageDev.faults c.args.image) (g.I.ImageDev.faults c.args.image) 0 0 c.in-Err.status h, refl)))
    c.in-Err.ensures.end
