use Rattle.std.proofs.Common.{◌∙◌, ℕ, List, All, sym, subst}
use Rattle.core_state.specs.Worlds.{IsOfWorld}
use Rattle.run_engine.specs.Inputs.{Leaves}
use Rattle.run_engine.proofs.Driving.{told_well}
use Rattle.run_engine.proofs.Given.{leaves_has}
use Rattle.run_engine.proofs.Results.{if_err, if_ok}
use Rattle.run_engine.proofs.MendedDrives.{told_now}
use Rattle.clus_top.specs.Ends.{IsStopBy}
use Rattle.clus_top.specs.Halts.{IsHaltIn}
use Rattle.clus_top.proofs.Reported.{plays_of_world, run_stop}
use Rattle.clus_top.proofs.Halting.{mended_in, halt_in, stop_halts}
use Rattle.clus_top.proofs.run_rebuild.mend_on.Goals as goal

pub run-ran-requires : goal.run-ran-requires
run-ran-requires g c =
    subst (λ (ns : List ℕ). All (IsOfWorld c.args.w.world) ns) (sym c.requires.plays) (plays_of_world c.args.w.world c.keeps_the_rules.ensures.good.counted c.requires.form)

pub mend_over-requires-clause-told : goal.mend_over-requires-clause-told
mend_over-requires-clause-told g c =
    told_now _ _ _ (told_well _ _ _ (c.run-ran.ensures.drive c.requires.told) (λ p. let e = sym c.in-Ok.is ∙ p in cc))

pub returns-in-Ok-clause-report : goal.returns-in-Ok-clause-report
returns-in-Ok-clause-report g c =
    let image = told_well _ _ _ (c.run-ran.ensures.drive c.requires.told) (λ p. let e = sym c.in-Ok.is ∙ p in cc) in
    if_ok c.mend_over.result.outcome _ _
    (λ text h. mended_in c.args.w.world c.keeps_the_rules.ensures.good c.requires.mounted c.run-ran.new.w.world c.args.plays.now _ _ c.requires.plays
    c.in-Ok.ensures.ok.0 c.in-Ok.ensures.ok.1 c.keeps_the_rules-2.ensures.good c.run-ran.ensures.stays c.in-Ok.ensures.whole image _ text.items h)
    c.mend_over.ensures.report

pub returns-in-Ok-clause-halt : goal.returns-in-Ok-clause-halt
returns-in-Ok-clause-halt g c =
    let image = told_well _ _ _ (c.run-ran.ensures.drive c.requires.told) (λ p. let e = sym c.in-Ok.is ∙ p in cc) in
    if_err c.mend_over.result.outcome _ _
    (λ x h. halt_in c.args.w.world c.keeps_the_rules.ensures.good c.requires.mounted c.run-ran.new.w.world c.args.plays.now _ _ c.requires.plays
    c.in-Ok.ensures.ok.0 c.in-Ok.ensures.ok.1 c.keeps_the_rules-2.ensures.good c.run-ran.ensures.stays c.in-Ok.ensures.whole image _ _ _ _ x c.run-ran.ensures.later h)
    c.mend_over.ensures.halt

pub returns-in-Err-clause-halt : goal.returns-in-Err-clause-halt
returns-in-Err-clause-halt g c =
    let told = λ (i : g.row.I.Denot). g.I.ImageDev.told i in
    let faults = λ (i : g.row.I.Denot). g.I.ImageDev.faults i in
    let script = c.args.w.world.script in
    let bs = c.args.w.world.blocks in
    let after = c.into_image.ensures ∙ c.into_parts-history.ensures.image in
    leaves_has (told c.args.w.image) (told c.into_image.result) _ _
    (λ new e. subst (IsHaltIn script bs new (faults c.args.w.image) (faults c.into_image.result)) (sym c.halt_of.ensures) (stop_halts script bs new (faults c.args.w.image) (faults c.into_image.result) c.stop_of-stop.result e))
    (subst (λ (i : g.row.I.Denot). Leaves (told c.args.w.image) (told i) (λ new. IsStopBy script bs new (faults c.args.w.image) (faults i) c.stop_of-stop.result)) (sym after)
    (run_stop c.args.w.world c.keeps_the_rules.ensures.good c.requires.mounted c.run-ran.new.w.world c.args.plays.now _ _ _ _ c.run-ran.result c.in-Err.fault c.in-Err.is c.requires.plays
    c.run-ran.ensures.err c.keeps_the_rules-2.ensures.good c.run-ran.ensures.cause c.run-ran.ensures.before c.run-ran.ensures.memory (c.run-ran.ensures.drive c.requires.told) c.requires.told
    c.stop_of-stop.result c.stop_of-stop.ensures))
