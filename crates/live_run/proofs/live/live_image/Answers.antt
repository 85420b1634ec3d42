use Rattle.std.proofs.Common.{sym, subst}
use Rattle.run_engine.specs.declared.over_mending.Halt.TheVariants as halt
use Rattle.run_engine.specs.Inputs.{Leaves}
use Rattle.run_engine.proofs.Given.{leaves_has, image_stays}
use Rattle.run_engine.proofs.Results.{if_err, if_ok}
use Rattle.live_run.specs.Lives.{IsEnd}
use Rattle.live_run.specs.Ends.{IsHalt}
use Rattle.live_run.specs.Statuses.{IsImageHalt}
use Rattle.live_run.proofs.Imaged.{halt_on, load_end}
use Rattle.live_run.proofs.live.live_image.Goals as goal

pub returns-in-Ok-clause-ended : goal.returns-in-Ok-clause-ended
returns-in-Ok-clause-ended g c =
    let now = g.I.ImageDev.told c.live_mounted.result.image in
    if_ok c.live_mounted.result.outcome _ _
    (λ text h. record {
      old = c.in-Ok.mirror.blocks;
      count = c.in-Ok.ensures.count;
      read = c.in-Ok.ensures.blocks;
      then = subst (λ t. Leaves t now (λ new. IsEnd c.args.job c.args.script.now c.in-Ok.mirror.blocks new text.items)) c.in-Ok.ensures.told h;
    })
    c.live_mounted.ensures.ended

pub returns-in-Ok-clause-halt : goal.returns-in-Ok-clause-halt
returns-in-Ok-clause-halt g c =
    let now = g.I.ImageDev.told c.live_mounted.result.image in
    let has = g.I.ImageDev.faults c.live_mounted.result.image in
    let had = g.I.ImageDev.faults c.in-Ok.mirror.image in
    if_err c.live_mounted.result.outcome _ _
    (λ x h. record {
      old = c.in-Ok.mirror.blocks;
      count = c.in-Ok.ensures.count;
      read = c.in-Ok.ensures.blocks;
      then = leaves_has (g.I.ImageDev.told c.args.image) now _ _
          (λ new e. halt_on c.args.job c.args.script.now (g.I.ImageDev.size c.args.image) c.in-Ok.mirror.blocks new (g.I.ImageDev.faults c.args.image) had has (g.I.ImageDev.lost c.args.image) (g.I.ImageDev.lost c.live_mounted.result.image) x c.in-Ok.ensures.inside c.in-Ok.ensures.later e)
          (subst (λ t. Leaves t now (λ new. IsHalt c.args.job c.args.script.now c.in-Ok.mirror.blocks new had has x)) c.in-Ok.ensures.told h);
    })
    c.live_mounted.ensures.halt

pub returns-in-Err-clause-halt : goal.returns-in-Err-clause-halt
returns-in-Err-clause-halt g c =
    let size = g.I.ImageDev.size c.args.image in
    let had = g.I.ImageDev.faults c.args.image in
    let has = g.I.ImageDev.faults c.in-Err.field-0.image in
    let lost = g.I.ImageDev.lost c.args.image in
    let losing = g.I.ImageDev.lost c.in-Err.field-0.image in
    image_stays size (g.I.ImageDev.told c.args.image) (g.I.ImageDev.told c.in-Err.field-0.image) _ c.blocks_are_counted.ensures c.in-Err.ensures.told
    (λ bs count. subst (λ s. IsImageHalt c.args.job c.args.script.now size bs bs had has lost losing (halt.By s)) (sym c.load_status.ensures) (load_end c.args.job c.args.script.now size bs had has lost losing c.in-Err.field-0.fault c.in-Err.ensures.lost c.in-Err.ensures.cause))
