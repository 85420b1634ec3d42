use Rattle.std.proofs.Common.{◌∙◌, sym, ap, subst}
use Rattle.run_engine.specs.declared.stop.Stop.TheVariants as stop
use Rattle.run_engine.specs.Inputs.{Leaves}
use Rattle.run_engine.proofs.Given.{leaves_has, stays}
use Rattle.run_engine.proofs.Results.{if_err, if_ok}
use Rattle.clus_top.specs.Ends.{IsEndIn, IsStopBy}
use Rattle.xqp_set.specs.Built.{IsBuilt}
use Rattle.xqp_set.proofs.Forms.{filled_built, close_built}
use Rattle.run_engine.proofs.Commands.{only_such}
use Rattle.clus_top.proofs.Reported.{end_of_mounted, stop_of_mounted, mount_stop}
use Rattle.clus_top.proofs.run_job.run_mounted.Goals as goal

pub mount-requires-clause-taken : goal.mount-requires-clause-taken
mount-requires-clause-taken g c = only_such IsBuilt filled_built close_built c.args.script.now c.requires.form

pub returns-in-Ok-clause-report : goal.returns-in-Ok-clause-report
returns-in-Ok-clause-report g c =
    let script = c.args.script.now in
    let bs = c.args.m.blocks in
    let told = λ (i : g.row.I.Denot). g.I.ImageDev.told i in
    let after = c.into_image.ensures ∙ c.into_parts-history.ensures.image in
    if_ok c.run_on-outcome.result _ _
    (λ text h.
    leaves_has (told c.args.m.image) (told c.into_image.result) _ _ (λ new e. end_of_mounted c.args.what bs script c.in-Ok.world.world new text.items c.in-Ok.ensures.world e)
    (subst (λ (i : g.row.I.Denot). Leaves (told i) (told c.into_image.result) (λ new. IsEndIn c.args.what c.in-Ok.world.world.script c.in-Ok.world.world.blocks new text.items)) c.in-Ok.ensures.image
    (subst (λ (i : g.row.I.Denot). Leaves (told c.in-Ok.world.image) (told i) (λ new. IsEndIn c.args.what c.in-Ok.world.world.script c.in-Ok.world.world.blocks new text.items)) (sym after) h)))
    c.run_on-outcome.ensures.report

pub returns-in-Ok-clause-end : goal.returns-in-Ok-clause-end
returns-in-Ok-clause-end g c =
    let script = c.args.script.now in
    let bs = c.args.m.blocks in
    let told = λ (i : g.row.I.Denot). g.I.ImageDev.told i in
    let faults = λ (i : g.row.I.Denot). g.I.ImageDev.faults i in
    let after = c.into_image.ensures ∙ c.into_parts-history.ensures.image in
    if_err c.run_on-outcome.result _ _
    (λ s h.
    leaves_has (told c.args.m.image) (told c.into_image.result) _ _ (λ new e. stop_of_mounted bs script c.in-Ok.world.world new (faults c.args.m.image) (faults c.into_image.result) s c.in-Ok.ensures.world e)
    (subst (λ (i : g.row.I.Denot). Leaves (told i) (told c.into_image.result) (λ new. IsStopBy c.in-Ok.world.world.script c.in-Ok.world.world.blocks new (faults i) (faults c.into_image.result) s)) c.in-Ok.ensures.image
    (subst (λ (i : g.row.I.Denot). Leaves (told c.in-Ok.world.image) (told i) (λ new. IsStopBy c.in-Ok.world.world.script c.in-Ok.world.world.blocks new (faults c.in-Ok.world.image) (faults i) s)) (sym after) h)))
    c.run_on-outcome.ensures.end

pub returns-in-Err-clause-end : goal.returns-in-Err-clause-end
returns-in-Err-clause-end g c =
    let same = c.into_image-in-Err.ensures ∙ ap (λ m. m.image) c.in-Err.ensures.mirror in
    let had = g.I.ImageDev.faults c.args.m.image in
    let has = g.I.ImageDev.faults c.into_image-in-Err.result in
    stays (g.I.ImageDev.told c.args.m.image) (g.I.ImageDev.told c.into_image-in-Err.result) c.args.m.blocks _ c.requires.told (ap (λ (i : g.row.I.Denot). g.I.ImageDev.told i) same)
    (subst (λ s. IsStopBy c.args.script.now c.args.m.blocks c.args.m.blocks had has (stop.By s)) (sym c.mount_status.ensures) (mount_stop c.args.script.now c.args.m.blocks c.in-Err.field-0.fault c.in-Err.ensures.end))
