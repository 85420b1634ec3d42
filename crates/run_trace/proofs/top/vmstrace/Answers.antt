use Rattle.run_engine.proofs.Given.{script_has, image_has}
use Rattle.run_trace.specs.Traced.{wanted_by}
use Rattle.run_trace.proofs.Telling.{called}
use Rattle.run_trace.proofs.top.vmstrace.Goals as goal

pub returns : goal.returns
returns g c =
    let size = g.I.ImageDev.size c.args.image in
    script_has (g.T.TextIn.left c.args.script.now) _ _
    (λ bytes. image_has size (g.I.ImageDev.told c.args.image) (g.I.ImageDev.told c.done.result.image) _ _
    (called (wanted_by c.args.words.now) size (g.O.TextOut.written c.args.out.now) (g.O.TextOut.written c.done.new.out) (g.T.TextIn.faults c.args.script.now) (g.T.TextIn.faults c.done.new.script)
    (g.I.ImageDev.faults c.args.image) (g.I.ImageDev.faults c.done.result.image) (g.O.TextOut.faults c.args.out.now) (g.O.TextOut.faults c.done.new.out) c.done.result.status
    c.no_other_status_is_due.ensures c.good_runs_are_answered.ensures bytes))
    c.done.ensures
