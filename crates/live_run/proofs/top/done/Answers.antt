use Rattle.std.proofs.Common.{◌≡◌, ◌∙◌, Option, None, refl, sym, subst}
use Rattle.run_engine.proofs.Given.{any_script, image_stays}
use Rattle.live_run.specs.declared.words.Job.{Job}
use Rattle.live_run.specs.Calls.{IsAnswer}
use Rattle.live_run.specs.Words.{job_of}
use Rattle.live_run.proofs.Told.{words_told}
use Rattle.live_run.proofs.top.done.Goals as goal

pub returns-in-None : goal.returns-in-None
returns-in-None g c =
    let size = g.I.ImageDev.size c.args.image in
    let told = g.I.ImageDev.told c.args.image in
    let faults = g.T.TextIn.faults c.args.script.now in
    let counted = g.I.ImageDev.faults c.args.image in
    let lost = g.I.ImageDev.lost c.args.image in
    let e : None ≡ job_of c.args.words.now = sym c.in-None.is ∙ c.job_of.ensures in
    any_script (g.T.TextIn.left c.args.script.now) _
    (λ bytes. image_stays size told told _ c.blocks_are_counted.ensures refl
    (λ bs count. subst (λ (w : Option Job). IsAnswer w bytes size bs bs (g.O.TextOut.written c.args.out.now) (g.O.TextOut.written c.tell.new.out) faults faults counted counted lost lost
    (g.O.TextOut.faults c.args.out.now) (g.O.TextOut.faults c.tell.new.out) c.tell.result) e
    (words_told size (g.O.TextOut.written c.args.out.now) (g.O.TextOut.written c.tell.new.out) faults faults counted counted lost lost (g.O.TextOut.faults c.args.out.now) (g.O.TextOut.faults c.tell.new.out)
    c.tell.result c.tell.ensures.status c.tell.ensures.text bytes bs)))
