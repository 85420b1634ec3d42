use Rattle.std.proofs.Common.{ℕ, List, subst}
use Rattle.std.specs.Io.KnownBytes.{Appends}
use Rattle.fx_text.specs.Streams.{AppendsStart}
use Rattle.run_engine.proofs.Given.{script_has, image_has}
use Rattle.run_engine.proofs.Results.{ok_has, err_is}
use Rattle.run_trace.proofs.Telling.{text_told, halt_told}
use Rattle.run_trace.proofs.top.traced.Goals as goal

pub returns-in-Ok : goal.returns-in-Ok
returns-in-Ok g c =
    let size = g.I.ImageDev.size c.args.image in
    let was = g.O.TextOut.written c.args.out.now in
    let now = g.O.TextOut.written c.tell_text-status.new.out in
    let text = c.in-Ok.text.items in
    script_has (g.T.TextIn.left c.args.script.now) _ _
    (λ bytes. image_has size (g.I.ImageDev.told c.args.image) (g.I.ImageDev.told c.trace_script-outcome.result.image) _ _
    (λ old new h. text_told c.args.ending bytes size old new was now (g.T.TextIn.faults c.args.script.now) (g.T.TextIn.faults c.trace_script-outcome.new.script) (g.I.ImageDev.faults c.args.image) (g.I.ImageDev.faults c.trace_script-outcome.result.image)
    (g.O.TextOut.faults c.args.out.now) (g.O.TextOut.faults c.tell_text-status.new.out) text c.tell_text-status.result h c.tell_text-status.ensures.either
    (λ e. subst (λ (t : List ℕ). Appends was now t) c.as_slice.ensures.value (c.tell_text-status.ensures.all e)) (λ e. subst (λ (t : List ℕ). AppendsStart was now t) c.as_slice.ensures.value (c.tell_text-status.ensures.cut e))
    c.tell_text-status.ensures.fault))
    (ok_has c.trace_script-outcome.result.outcome c.in-Ok.text _ c.in-Ok.is c.trace_script-outcome.ensures.text)

pub returns-in-Err : goal.returns-in-Err
returns-in-Err g c =
    let size = g.I.ImageDev.size c.args.image in
    let was = g.O.TextOut.written c.args.out.now in
    let now = g.O.TextOut.written c.tell_halt-status.new.out in
    script_has (g.T.TextIn.left c.args.script.now) _ _
    (λ bytes. image_has size (g.I.ImageDev.told c.args.image) (g.I.ImageDev.told c.trace_script-outcome.result.image) _ _
    (λ old new h. halt_told c.args.ending bytes size old new was now (g.T.TextIn.faults c.args.script.now) (g.T.TextIn.faults c.trace_script-outcome.new.script) (g.I.ImageDev.faults c.args.image) (g.I.ImageDev.faults c.trace_script-outcome.result.image)
    (g.O.TextOut.faults c.args.out.now) (g.O.TextOut.faults c.tell_halt-status.new.out) c.in-Err.halt c.tell_halt-status.result c.tell_halt-status.ensures h))
    (err_is c.trace_script-outcome.result.outcome c.in-Err.halt _ c.in-Err.is c.trace_script-outcome.ensures.halt)
