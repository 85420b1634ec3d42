use Rattle.std.proofs.Common.{◌≡◌, ◌∙◌, Option, Some, None, refl, sym, ap, subst}
use Rattle.std.specs.Option.{option_map}
use Rattle.run_engine.specs.Inputs.{OfScript, OfImage}
use Rattle.run_engine.proofs.Given.{any_script, image_stays}
use Rattle.clus_top.specs.Calls.{IsAnswer}
use Rattle.clus_top.specs.Words.{Wanted, wanted, Soak, Analyze, Rebuild, Repair, Records, Store, Init, wanted_by}
use Rattle.clus_top.proofs.Told.{words_told}
use Rattle.clus_top.proofs.top.done.Goals as goal

pub returns-in-Some-Soak : goal.returns-in-Some-Soak
returns-in-Some-Soak g c =
    let size = g.I.ImageDev.size c.args.image in
    let told = g.I.ImageDev.told c.args.image in
    let now = g.I.ImageDev.told c.soak.result.image in
    let faults = g.T.TextIn.faults c.args.script.now in
    let e : Some (Soak c.in-Some-Soak.n) ≡ wanted_by c.args.words.now = sym (ap (option_map wanted) (c.in-Some-Soak.is ∙ ap (λ x. Some x) c.in-Some-Soak.field-0-is)) ∙ c.job_of.ensures.wanted in
    any_script (g.T.TextIn.left c.args.script.now) _
    (λ bytes. subst (λ (w : Option Wanted). OfImage size told now (λ old new.
    IsAnswer w bytes size old new (g.O.TextOut.written c.args.out.now) (g.O.TextOut.written c.soak.new.out) faults faults (g.I.ImageDev.faults c.args.image) (g.I.ImageDev.faults c.soak.result.image) (g.I.ImageDev.lost c.args.image) (g.I.ImageDev.lost c.soak.result.image)
    (g.O.TextOut.faults c.args.out.now) (g.O.TextOut.faults c.soak.new.out) c.soak.result.status)) e (c.soak.ensures bytes faults))

pub returns-in-Some-Analyze : goal.returns-in-Some-Analyze
returns-in-Some-Analyze g c =
    let size = g.I.ImageDev.size c.args.image in
    let told = g.I.ImageDev.told c.args.image in
    let now = g.I.ImageDev.told c.analyze.result.image in
    let faults = g.T.TextIn.faults c.args.script.now in
    let e : Some (Analyze) ≡ wanted_by c.args.words.now = sym (ap (option_map wanted) (c.in-Some-Analyze.is ∙ ap (λ x. Some x) c.in-Some-Analyze.field-0-is)) ∙ c.job_of.ensures.wanted in
    any_script (g.T.TextIn.left c.args.script.now) _
    (λ bytes. subst (λ (w : Option Wanted). OfImage size told now (λ old new.
    IsAnswer w bytes size old new (g.O.TextOut.written c.args.out.now) (g.O.TextOut.written c.analyze.new.out) faults faults (g.I.ImageDev.faults c.args.image) (g.I.ImageDev.faults c.analyze.result.image) (g.I.ImageDev.lost c.args.image) (g.I.ImageDev.lost c.analyze.result.image)
    (g.O.TextOut.faults c.args.out.now) (g.O.TextOut.faults c.analyze.new.out) c.analyze.result.status)) e (c.analyze.ensures bytes faults))

pub returns-in-Some-Rebuild : goal.returns-in-Some-Rebuild
returns-in-Some-Rebuild g c =
    let size = g.I.ImageDev.size c.args.image in
    let told = g.I.ImageDev.told c.args.image in
    let now = g.I.ImageDev.told c.rebuild.result.image in
    let faults = g.T.TextIn.faults c.args.script.now in
    let e : Some (Rebuild) ≡ wanted_by c.args.words.now = sym (ap (option_map wanted) (c.in-Some-Rebuild.is ∙ ap (λ x. Some x) c.in-Some-Rebuild.field-0-is)) ∙ c.job_of.ensures.wanted in
    any_script (g.T.TextIn.left c.args.script.now) _
    (λ bytes. subst (λ (w : Option Wanted). OfImage size told now (λ old new.
    IsAnswer w bytes size old new (g.O.TextOut.written c.args.out.now) (g.O.TextOut.written c.rebuild.new.out) faults faults (g.I.ImageDev.faults c.args.image) (g.I.ImageDev.faults c.rebuild.result.image) (g.I.ImageDev.lost c.args.image) (g.I.ImageDev.lost c.rebuild.result.image)
    (g.O.TextOut.faults c.args.out.now) (g.O.TextOut.faults c.rebuild.new.out) c.rebuild.result.status)) e (c.rebuild.ensures bytes faults))

pub returns-in-Some-Repair : goal.returns-in-Some-Repair
returns-in-Some-Repair g c =
    let size = g.I.ImageDev.size c.args.image in
    let told = g.I.ImageDev.told c.args.image in
    let now = g.I.ImageDev.told c.repair.result.image in
    let faults = g.T.TextIn.faults c.args.script.now in
    let e : Some (Repair) ≡ wanted_by c.args.words.now = sym (ap (option_map wanted) (c.in-Some-Repair.is ∙ ap (λ x. Some x) c.in-Some-Repair.field-0-is)) ∙ c.job_of.ensures.wanted in
    any_script (g.T.TextIn.left c.args.script.now) _
    (λ bytes. subst (λ (w : Option Wanted). OfImage size told now (λ old new.
    IsAnswer w bytes size old new (g.O.TextOut.written c.args.out.now) (g.O.TextOut.written c.repair.new.out) faults faults (g.I.ImageDev.faults c.args.image) (g.I.ImageDev.faults c.repair.result.image) (g.I.ImageDev.lost c.args.image) (g.I.ImageDev.lost c.repair.result.image)
    (g.O.TextOut.faults c.args.out.now) (g.O.TextOut.faults c.repair.new.out) c.repair.result.status)) e (c.repair.ensures bytes faults))

pub returns-in-Some-Records : goal.returns-in-Some-Records
returns-in-Some-Records g c =
    let size = g.I.ImageDev.size c.args.image in
    let told = g.I.ImageDev.told c.args.image in
    let now = g.I.ImageDev.told c.records.result.image in
    let faults = g.T.TextIn.faults c.args.script.now in
    let e : Some (Records c.in-Some-Records.file c.in-Some-Records.seq) ≡ wanted_by c.args.words.now = sym (ap (option_map wanted) (c.in-Some-Records.is ∙ ap (λ x. Some x) c.in-Some-Records.field-0-is)) ∙ c.job_of.ensures.wanted in
    any_script (g.T.TextIn.left c.args.script.now) _
    (λ bytes. subst (λ (w : Option Wanted). OfImage size told now (λ old new.
    IsAnswer w bytes size old new (g.O.TextOut.written c.args.out.now) (g.O.TextOut.written c.records.new.out) faults faults (g.I.ImageDev.faults c.args.image) (g.I.ImageDev.faults c.records.result.image) (g.I.ImageDev.lost c.args.image) (g.I.ImageDev.lost c.records.result.image)
    (g.O.TextOut.faults c.args.out.now) (g.O.TextOut.faults c.records.new.out) c.records.result.status)) e (c.records.ensures bytes faults))

pub returns-in-Some-Store : goal.returns-in-Some-Store
returns-in-Some-Store g c =
    let size = g.I.ImageDev.size c.args.image in
    let told = g.I.ImageDev.told c.args.image in
    let now = g.I.ImageDev.told c.store.result.image in
    let e : Some (Store c.in-Some-Store.file c.in-Some-Store.seq) ≡ wanted_by c.args.words.now = sym (ap (option_map wanted) (c.in-Some-Store.is ∙ ap (λ x. Some x) c.in-Some-Store.field-0-is)) ∙ c.job_of.ensures.wanted in
    subst (λ (w : Option Wanted). OfScript (g.T.TextIn.left c.args.script.now) (λ bytes. OfImage size told now (λ old new.
    IsAnswer w bytes size old new (g.O.TextOut.written c.args.out.now) (g.O.TextOut.written c.store.new.out) (g.T.TextIn.faults c.args.script.now) (g.T.TextIn.faults c.store.new.script)
    (g.I.ImageDev.faults c.args.image) (g.I.ImageDev.faults c.store.result.image) (g.I.ImageDev.lost c.args.image) (g.I.ImageDev.lost c.store.result.image) (g.O.TextOut.faults c.args.out.now) (g.O.TextOut.faults c.store.new.out) c.store.result.status))) e c.store.ensures

pub returns-in-Some-Init : goal.returns-in-Some-Init
returns-in-Some-Init g c =
    let size = g.I.ImageDev.size c.args.image in
    let told = g.I.ImageDev.told c.args.image in
    let now = g.I.ImageDev.told c.init.result.image in
    let faults = g.T.TextIn.faults c.args.script.now in
    let e : Some (Init c.in-Some-Init.cluster c.in-Some-Init.files c.in-Some-Init.label.now) ≡ wanted_by c.args.words.now = sym (ap (option_map wanted) (c.in-Some-Init.is ∙ ap (λ x. Some x) c.in-Some-Init.field-0-is)) ∙ c.job_of.ensures.wanted in
    any_script (g.T.TextIn.left c.args.script.now) _
    (λ bytes. subst (λ (w : Option Wanted). OfImage size told now (λ old new.
    IsAnswer w bytes size old new (g.O.TextOut.written c.args.out.now) (g.O.TextOut.written c.init.new.out) faults faults (g.I.ImageDev.faults c.args.image) (g.I.ImageDev.faults c.init.result.image) (g.I.ImageDev.lost c.args.image) (g.I.ImageDev.lost c.init.result.image)
    (g.O.TextOut.faults c.args.out.now) (g.O.TextOut.faults c.init.new.out) c.init.result.status)) e (c.init.ensures bytes faults))

pub returns-in-None : goal.returns-in-None
returns-in-None g c =
    let size = g.I.ImageDev.size c.args.image in
    let told = g.I.ImageDev.told c.args.image in
    let faults = g.T.TextIn.faults c.args.script.now in
    let counted = g.I.ImageDev.faults c.args.image in
    let lost = g.I.ImageDev.lost c.args.image in
    let e : None ≡ wanted_by c.args.words.now = sym (ap (option_map wanted) c.in-None.is) ∙ c.job_of.ensures.wanted in
    any_script (g.T.TextIn.left c.args.script.now) _
    (λ bytes. image_stays size told told _ (g.met.I.ImageDev.counted c.args.image) refl
    (λ bs count. subst (λ (w : Option Wanted). IsAnswer w bytes size bs bs (g.O.TextOut.written c.args.out.now) (g.O.TextOut.written c.tell.new.out) faults faults counted counted lost lost
    (g.O.TextOut.faults c.args.out.now) (g.O.TextOut.faults c.tell.new.out) c.tell.result) e
    (words_told size (g.O.TextOut.written c.args.out.now) (g.O.TextOut.written c.tell.new.out) faults faults counted counted lost lost (g.O.TextOut.faults c.args.out.now) (g.O.TextOut.faults c.tell.new.out)
    c.tell.result c.tell.ensures.status c.tell.ensures.text bytes bs)))
