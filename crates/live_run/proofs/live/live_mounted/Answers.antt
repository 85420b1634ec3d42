use Rattle.std.proofs.Common.{◌∙◌, sym, ap, subst}
use Rattle.run_engine.specs.declared.over_mending.Halt.TheVariants as halt
use Rattle.run_engine.specs.Inputs.{Leaves}
use Rattle.run_engine.proofs.Given.{leaves_has, stays}
use Rattle.live_run.specs.Lives.{IsEnd}
use Rattle.live_run.specs.Ends.{IsHalt}
use Rattle.live_run.proofs.Lived.{end_of_mounted, halt_of_mounted, mount_halt}
use Rattle.run_engine.proofs.Results.{if_err, if_ok}
use Rattle.live_run.proofs.live.live_mounted.Goals as goal

pub returns-in-Ok-clause-ended : goal.returns-in-Ok-clause-ended
returns-in-Ok-clause-ended g c =
    let told = λ (i : g.row.I.Denot). g.I.ImageDev.told i in
    let now = told c.live_on.result.image in
    let world = c.in-Ok.world.world in
    if_ok c.live_on.result.outcome _ _
    (λ text h.
    leaves_has (told c.args.m.image) now _ _ (λ new e. end_of_mounted c.args.job c.args.m.blocks c.args.script.now world new text.items c.in-Ok.ensures.world e)
    (subst (λ (i : g.row.I.Denot). Leaves (told i) now (λ new. IsEnd c.args.job world.script world.blocks new text.items)) c.in-Ok.ensures.image h))
    c.live_on.ensures.ended

pub returns-in-Ok-clause-halt : goal.returns-in-Ok-clause-halt
returns-in-Ok-clause-halt g c =
    let told = λ (i : g.row.I.Denot). g.I.ImageDev.told i in
    let faults = λ (i : g.row.I.Denot). g.I.ImageDev.faults i in
    let now = told c.live_on.result.image in
    let has = faults c.live_on.result.image in
    let world = c.in-Ok.world.world in
    if_err c.live_on.result.outcome _ _
    (λ x h.
    leaves_has (told c.args.m.image) now _ _ (λ new e. halt_of_mounted c.args.job c.args.m.blocks c.args.script.now world new (faults c.args.m.image) has x c.in-Ok.ensures.world e)
    (subst (λ (i : g.row.I.Denot). Leaves (told i) now (λ new. IsHalt c.args.job world.script world.blocks new (faults i) has x)) c.in-Ok.ensures.image h))
    c.live_on.ensures.halt

pub returns-in-Err-clause-halt : goal.returns-in-Err-clause-halt
returns-in-Err-clause-halt g c =
    let same = c.into_image.ensures ∙ ap (λ m. m.image) c.in-Err.ensures.mirror in
    let had = g.I.ImageDev.faults c.args.m.image in
    let has = g.I.ImageDev.faults c.into_image.result in
    stays (g.I.ImageDev.told c.args.m.image) (g.I.ImageDev.told c.into_image.result) c.args.m.blocks _ c.requires.told (ap (λ (i : g.row.I.Denot). g.I.ImageDev.told i) same)
    (subst (λ s. IsHalt c.args.job c.args.script.now c.args.m.blocks c.args.m.blocks had has (halt.By s)) (sym c.mount_status.ensures) (mount_halt c.args.job c.args.script.now c.args.m.blocks c.in-Err.field-0.fault c.in-Err.ensures.end))
