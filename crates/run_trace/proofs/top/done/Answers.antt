use Rattle.std.proofs.Common.{◌≡◌, ◌∙◌, Option, Some, None, ap, refl, sym, subst}
use Rattle.std.specs.Option.{option_map}
use Rattle.run_engine.proofs.Given.{any_script, image_stays, script_has, image_has}
use Rattle.clus_top.specs.Words.{Wanted}
use Rattle.run_trace.specs.Traced.{wanted, wanted_by, IsTraceAnswer}
use Rattle.run_trace.proofs.Telling.{words_told}
use Rattle.run_trace.proofs.top.done.Goals as goal

pub returns-in-Some : goal.returns-in-Some
returns-in-Some g c =
    let size = g.I.ImageDev.size c.args.image in
    let e : Some (wanted c.in-Some.ending) ≡ wanted_by c.args.words.now = sym (ap (option_map wanted) c.in-Some.is) ∙ c.ending_of.ensures in
    script_has (g.T.TextIn.left c.args.script.now) _ _
    (λ bytes. image_has size (g.I.ImageDev.told c.args.image) (g.I.ImageDev.told c.traced.result.image) _ _
    (λ old new h. subst (λ (w : Option Wanted). IsTraceAnswer w bytes size old new (g.O.TextOut.written c.args.out.now) (g.O.TextOut.written c.traced.new.out) (g.T.TextIn.faults c.args.script.now) (g.T.TextIn.faults c.traced.new.script)
    (g.I.ImageDev.faults c.args.image) (g.I.ImageDev.faults c.traced.result.image) (g.O.TextOut.faults c.args.out.now) (g.O.TextOut.faults c.traced.new.out) c.traced.result.status) e h))
    c.traced.ensures

pub returns-in-None : goal.returns-in-None
returns-in-None g c =
    let size = g.I.ImageDev.size c.args.image in
    let told = g.I.ImageDev.told c.args.image in
    let faults = g.T.TextIn.faults c.args.script.now in
    let counted = g.I.ImageDev.faults c.args.image in
    let was = g.O.TextOut.written c.args.out.now in
    let now = g.O.TextOut.written c.tell.new.out in
    let before = g.O.TextOut.faults c.args.out.now in
    let after = g.O.TextOut.faults c.tell.new.out in
    let e : None ≡ wanted_by c.args.words.now = sym (ap (option_map wanted) c.in-None.is) ∙ c.ending_of.ensures in
    any_script (g.T.TextIn.left c.args.script.now) _
    (λ bytes. image_stays size told told _ (g.met.I.ImageDev.counted c.args.image) refl
    (λ bs count. subst (λ (w : Option Wanted). IsTraceAnswer w bytes size bs bs was now faults faults counted counted before after c.tell.result) e
    (words_told bytes size bs bs was now faults faults counted counted before after c.tell.result c.tell.ensures.status c.tell.ensures.text refl)))
