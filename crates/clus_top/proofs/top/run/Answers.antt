use Rattle.std.proofs.Common.{ℕ, List, subst}
use Rattle.std.specs.Io.KnownBytes.{Appends}
use Rattle.fx_text.specs.Streams.{AppendsStart}
use Rattle.run_engine.proofs.Given.{script_has, image_has}
use Rattle.run_engine.proofs.Results.{ok_has, err_is}
use Rattle.run_engine.specs.Halts.{IsToldHalt}
use Rattle.clus_top.proofs.Told.{run_ok, run_told}
use Rattle.clus_top.proofs.top.run.Goals as goal

pub returns-in-Ok : goal.returns-in-Ok
returns-in-Ok g c =
    let size = g.I.ImageDev.size c.args.image in
    let was = g.O.TextOut.written c.args.out.now in
    let now = g.O.TextOut.written c.tell_text-status.new.out in
    let text = c.in-Ok.text.items in
    script_has (g.T.TextIn.left c.args.script.now) _ _
    (λ bytes. image_has size (g.I.ImageDev.told c.args.image) (g.I.ImageDev.told c.run_script-outcome.result.image) _ _
    (run_ok size was now (g.T.TextIn.faults c.args.script.now) (g.T.TextIn.faults c.run_script-outcome.new.script) (g.I.ImageDev.faults c.args.image) (g.I.ImageDev.faults c.run_script-outcome.result.image) (g.I.ImageDev.lost c.args.image) (g.I.ImageDev.lost c.run_script-outcome.result.image)
    (g.O.TextOut.faults c.args.out.now) (g.O.TextOut.faults c.tell_text-status.new.out) c.tell_text-status.result text c.tell_text-status.ensures.either
    (λ e. subst (λ (t : List ℕ). Appends was now t) c.as_slice.ensures.value (c.tell_text-status.ensures.all e)) (λ e. subst (λ (t : List ℕ). AppendsStart was now t) c.as_slice.ensures.value (c.tell_text-status.ensures.cut e))
    c.tell_text-status.ensures.fault bytes))
    (ok_has c.run_script-outcome.result.outcome c.in-Ok.text _ c.in-Ok.is c.run_script-outcome.ensures.report)

pub returns-in-Err : goal.returns-in-Err
returns-in-Err g c =
    let size = g.I.ImageDev.size c.args.image in
    let was = g.O.TextOut.written c.args.out.now in
    let now = g.O.TextOut.written c.tell_halt-status.new.out in
    let before = g.O.TextOut.faults c.args.out.now in
    let after = g.O.TextOut.faults c.tell_halt-status.new.out in
    script_has (g.T.TextIn.left c.args.script.now) _ _
    (λ bytes. image_has size (g.I.ImageDev.told c.args.image) (g.I.ImageDev.told c.run_script-outcome.result.image) _ _
    (run_told size was now (g.T.TextIn.faults c.args.script.now) (g.T.TextIn.faults c.run_script-outcome.new.script) (g.I.ImageDev.faults c.args.image) (g.I.ImageDev.faults c.run_script-outcome.result.image) (g.I.ImageDev.lost c.args.image) (g.I.ImageDev.lost c.run_script-outcome.result.image) before after
    c.tell_halt-status.result c.in-Err.stop (subst (λ h. IsToldHalt was now before after h c.tell_halt-status.result) c.halt_of.ensures c.tell_halt-status.ensures) bytes))
    (err_is c.run_script-outcome.result.outcome c.in-Err.stop _ c.in-Err.is c.run_script-outcome.ensures.end)
