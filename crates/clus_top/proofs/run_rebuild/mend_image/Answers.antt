use Rattle.std.proofs.Common.{sym, subst, inl}
use Rattle.run_engine.specs.declared.over_mending.Halt.TheVariants as halt
use Rattle.run_engine.specs.Inputs.{Leaves}
use Rattle.run_engine.proofs.Given.{leaves_has, image_stays}
use Rattle.run_engine.proofs.Results.{if_err, if_ok}
use Rattle.clus_top.specs.Halts.{IsMendedIn, IsHaltIn, IsImageHalt}
use Rattle.clus_top.proofs.Halting.{halt_on}
use Rattle.clus_top.proofs.Imaged.{load_end}
use Rattle.clus_top.proofs.run_rebuild.mend_image.Goals as goal

pub returns-in-Ok-clause-report : goal.returns-in-Ok-clause-report
returns-in-Ok-clause-report g c =
    let now = g.I.ImageDev.told c.mend_mounted.result.image in
    if_ok c.mend_mounted.result.outcome _ _
    (λ text h. record {
      old = c.in-Ok.mirror.blocks;
      count = c.in-Ok.ensures.count;
      read = c.in-Ok.ensures.blocks;
      then = subst (λ t. Leaves t now (λ new. IsMendedIn c.args.script.now c.in-Ok.mirror.blocks new text.items)) c.in-Ok.ensures.told h;
    })
    c.mend_mounted.ensures.report

pub returns-in-Ok-clause-halt : goal.returns-in-Ok-clause-halt
returns-in-Ok-clause-halt g c =
    let now = g.I.ImageDev.told c.mend_mounted.result.image in
    let has = g.I.ImageDev.faults c.mend_mounted.result.image in
    let had = g.I.ImageDev.faults c.in-Ok.mirror.image in
    if_err c.mend_mounted.result.outcome _ _
    (λ x h. record {
      old = c.in-Ok.mirror.blocks;
      count = c.in-Ok.ensures.count;
      read = c.in-Ok.ensures.blocks;
      then = leaves_has (g.I.ImageDev.told c.args.image) now _ _
          (λ new e. halt_on c.args.script.now (g.I.ImageDev.size c.args.image) c.in-Ok.mirror.blocks new (g.I.ImageDev.faults c.args.image) had has (g.I.ImageDev.lost c.args.image) (g.I.ImageDev.lost c.mend_mounted.result.image) x c.in-Ok.ensures.inside c.in-Ok.ensures.later e)
          (subst (λ t. Leaves t now (λ new. IsHaltIn c.args.script.now c.in-Ok.mirror.blocks new had has x)) c.in-Ok.ensures.told h);
    })
    c.mend_mounted.ensures.halt

pub returns-in-Err-clause-halt : goal.returns-in-Err-clause-halt
returns-in-Err-clause-halt g c =
    let size = g.I.ImageDev.size c.args.image in
    let had = g.I.ImageDev.faults c.args.image in
    let has = g.I.ImageDev.faults c.in-Err.field-0.image in
    let lost = g.I.ImageDev.lost c.args.image in
    let losing = g.I.ImageDev.lost c.in-Err.field-0.image in
    image_stays size (g.I.ImageDev.told c.args.image) (g.I.ImageDev.told c.in-Err.field-0.image) _ (g.met.I.ImageDev.counted c.args.image) c.in-Err.ensures.told
    (λ bs count. subst (λ s. IsImageHalt c.args.script.now size bs bs had has lost losing (halt.By s)) (sym c.load_status.ensures) (inl (load_end c.args.script.now size bs had has lost losing c.in-Err.field-0.fault c.in-Err.ensures.lost c.in-Err.ensures.cause)))
