use Rattle.std.proofs.Common.{◌∙◌, sym, ap, subst}
use Rattle.run_engine.specs.declared.over_mending.Halt.TheVariants as halt
use Rattle.run_engine.specs.Inputs.{Leaves}
use Rattle.run_engine.proofs.Given.{leaves_has, stays}
use Rattle.run_engine.proofs.Results.{if_err, if_ok}
use Rattle.clus_top.specs.Halts.{IsMendedIn, IsHaltIn}
use Rattle.xqp_set.specs.Built.{IsBuilt}
use Rattle.xqp_set.proofs.Forms.{filled_built, close_built}
use Rattle.run_engine.proofs.Commands.{only_such}
use Rattle.clus_top.proofs.Halting.{mended_of_mounted, halt_of_mounted, mount_halt}
use Rattle.clus_top.proofs.run_rebuild.mend_mounted.Goals as goal

pub mount-requires-clause-taken : goal.mount-requires-clause-taken
mount-requires-clause-taken g c = only_such IsBuilt filled_built close_built c.args.script.now c.requires.form

pub returns-in-Ok-clause-report : goal.returns-in-Ok-clause-report
returns-in-Ok-clause-report g c =
    let told = λ (i : g.row.I.Denot). g.I.ImageDev.told i in
    let now = told c.mend_on.result.image in
    let world = c.in-Ok.world.world in
    if_ok c.mend_on.result.outcome _ _
    (λ text h.
    leaves_has (told c.args.m.image) now _ _ (λ new e. mended_of_mounted c.args.m.blocks c.args.script.now world new text.items c.in-Ok.ensures.world e)
    (subst (λ (i : g.row.I.Denot). Leaves (told i) now (λ new. IsMendedIn world.script world.blocks new text.items)) c.in-Ok.ensures.image h))
    c.mend_on.ensures.report

pub returns-in-Ok-clause-halt : goal.returns-in-Ok-clause-halt
returns-in-Ok-clause-halt g c =
    let told = λ (i : g.row.I.Denot). g.I.ImageDev.told i in
    let faults = λ (i : g.row.I.Denot). g.I.ImageDev.faults i in
    let now = told c.mend_on.result.image in
    let has = faults c.mend_on.result.image in
    let world = c.in-Ok.world.world in
    if_err c.mend_on.result.outcome _ _
    (λ x h.
    leaves_has (told c.args.m.image) now _ _ (λ new e. halt_of_mounted c.args.m.blocks c.args.script.now world new (faults c.args.m.image) has x c.in-Ok.ensures.world e)
    (subst (λ (i : g.row.I.Denot). Leaves (told i) now (λ new. IsHaltIn world.script world.blocks new (faults i) has x)) c.in-Ok.ensures.image h))
    c.mend_on.ensures.halt

pub returns-in-Err-clause-halt : goal.returns-in-Err-clause-halt
returns-in-Err-clause-halt g c =
    let same = c.into_image.ensures ∙ ap (λ m. m.image) c.in-Err.ensures.mirror in
    let had = g.I.ImageDev.faults c.args.m.image in
    let has = g.I.ImageDev.faults c.into_image.result in
    stays (g.I.ImageDev.told c.args.m.image) (g.I.ImageDev.told c.into_image.result) c.args.m.blocks _ c.requires.told (ap (λ (i : g.row.I.Denot). g.I.ImageDev.told i) same)
    (subst (λ s. IsHaltIn c.args.script.now c.args.m.blocks c.args.m.blocks had has (halt.By s)) (sym c.mount_status.ensures) (mount_halt c.args.script.now c.args.m.blocks had has c.in-Err.field-0.fault c.in-Err.ensures.end))
