use Rattle.std.proofs.Common.{ℕ, List, subst}
use Rattle.std.specs.Io.KnownBytes.{Appends}
use Rattle.fx_text.specs.Streams.{AppendsStart}
use Rattle.run_engine.proofs.Given.{script_has, image_has}
use Rattle.run_engine.proofs.Results.{ok_has, err_is}
use Rattle.clus_top.proofs.Told.{store_ok, store_told}
use Rattle.clus_top.proofs.top.store.Goals as goal

pub returns-in-Ok : goal.returns-in-Ok
returns-in-Ok g c =
    let size = g.I.ImageDev.size c.args.image in
    let was = g.O.TextOut.written c.args.out.now in
    let now = g.O.TextOut.written c.tell_text-status.new.out in
    let text = c.in-Ok.text.items in
    script_has (g.T.TextIn.left c.args.script.now) _ _
    (λ bytes. image_has size (g.I.ImageDev.told c.args.image) (g.I.ImageDev.told c.store_text-outcome.result.image) _ _
    (store_ok size was now (g.T.TextIn.faults c.args.script.now) (g.T.TextIn.faults c.store_text-outcome.new.script) (g.I.ImageDev.faults c.args.image) (g.I.ImageDev.faults c.store_text-outcome.result.image) (g.I.ImageDev.lost c.args.image) (g.I.ImageDev.lost c.store_text-outcome.result.image)
    (g.O.TextOut.faults c.args.out.now) (g.O.TextOut.faults c.tell_text-status.new.out) c.tell_text-status.result text c.tell_text-status.ensures.either
    (λ e. subst (λ (t : List ℕ). Appends was now t) c.as_slice.ensures.value (c.tell_text-status.ensures.all e)) (λ e. subst (λ (t : List ℕ). AppendsStart was now t) c.as_slice.ensures.value (c.tell_text-status.ensures.cut e))
    c.tell_text-status.ensures.fault c.args.file c.args.seq bytes))
    (ok_has c.store_text-outcome.result.outcome c.in-Ok.text _ c.in-Ok.is c.store_text-outcome.ensures.text)

pub returns-in-Err : goal.returns-in-Err
returns-in-Err g c =
    let size = g.I.ImageDev.size c.args.image in
    script_has (g.T.TextIn.left c.args.script.now) _ _
    (λ bytes. image_has size (g.I.ImageDev.told c.args.image) (g.I.ImageDev.told c.store_text-outcome.result.image) _ _
    (store_told size (g.O.TextOut.written c.args.out.now) (g.O.TextOut.written c.tell-status.new.out) (g.T.TextIn.faults c.args.script.now) (g.T.TextIn.faults c.store_text-outcome.new.script)
    (g.I.ImageDev.faults c.args.image) (g.I.ImageDev.faults c.store_text-outcome.result.image) (g.I.ImageDev.lost c.args.image) (g.I.ImageDev.lost c.store_text-outcome.result.image) (g.O.TextOut.faults c.args.out.now) (g.O.TextOut.faults c.tell-status.new.out) c.tell-status.result
    c.in-Err.fault c.tell-status.ensures.status c.tell-status.ensures.text c.tell-status.ensures.fault c.args.file c.args.seq bytes))
    (err_is c.store_text-outcome.result.outcome c.in-Err.fault _ c.in-Err.is c.store_text-outcome.ensures.end)
