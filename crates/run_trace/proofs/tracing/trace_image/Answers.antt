use Rattle.std.proofs.Common.{sym, subst, refl}
use Rattle.run_engine.proofs.Given.{image_stays}
use Rattle.run_trace.specs.Inside.{IsImageEndOf}
use Rattle.run_trace.proofs.Traces.{load_end}
use Rattle.run_trace.proofs.tracing.trace_image.Goals as goal

pub returns-in-Err-clause-halt : goal.returns-in-Err-clause-halt
returns-in-Err-clause-halt g c =
    let size = g.I.ImageDev.size c.args.image in
    let had = g.I.ImageDev.faults c.args.image in
    let has = g.I.ImageDev.faults c.in-Err.field-0.image in
    image_stays size (g.I.ImageDev.told c.args.image) (g.I.ImageDev.told c.in-Err.field-0.image) _ (g.met.I.ImageDev.counted c.args.image) c.in-Err.ensures.told
    (λ bs count. (subst (λ s. IsImageEndOf size bs had has s) (sym c.load_status.ensures) (load_end size bs had has c.in-Err.field-0.fault c.in-Err.ensures.cause), refl))
