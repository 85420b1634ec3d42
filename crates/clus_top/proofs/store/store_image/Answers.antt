use Rattle.std.proofs.Common.{length, sym, subst}
use Rattle.run_engine.specs.Inputs.{Leaves}
use Rattle.run_engine.proofs.Given.{leaves_has, image_stays}
use Rattle.run_engine.proofs.Results.{if_err}
use Rattle.clus_top.specs.Stores.{IsKeepEnd}
use Rattle.clus_top.proofs.Keeping.{load_end, end_from}
use Rattle.clus_top.proofs.store.store_image.Goals as goal

pub returns-in-Ok-clause-end : goal.returns-in-Ok-clause-end
returns-in-Ok-clause-end g c =
    let n = c.args.n in
    let seq = c.args.seq in
    let lines = c.args.lines.now in
    let bs = c.in-Ok.mirror.blocks in
    let had = g.I.ImageDev.faults c.in-Ok.mirror.image in
    if_err c.store_on-outcome.result _ _
    (λ s h. record {
      old = bs;
      count = c.in-Ok.ensures.count;
      read = c.in-Ok.ensures.blocks;
      then = leaves_has (g.I.ImageDev.told c.args.image) (g.I.ImageDev.told c.into_image.result) _ _
          (λ new e. end_from n seq lines (length bs) (g.I.ImageDev.size c.args.image) bs new (g.I.ImageDev.faults c.args.image) had (g.I.ImageDev.faults c.into_image.result) s c.in-Ok.ensures.count c.in-Ok.ensures.later e)
          (subst (λ t. Leaves t (g.I.ImageDev.told c.into_image.result) (λ new. IsKeepEnd n seq lines (length bs) bs new had (g.I.ImageDev.faults c.into_image.result) s)) c.in-Ok.ensures.told
          (subst (λ (i : g.row.I.Denot). Leaves (g.I.ImageDev.told c.in-Ok.mirror.image) (g.I.ImageDev.told i) (λ new. IsKeepEnd n seq lines (length bs) bs new had (g.I.ImageDev.faults i) s)) (sym c.into_image.ensures) h));
    })
    c.store_on-outcome.ensures.end

pub returns-in-Err-clause-end : goal.returns-in-Err-clause-end
returns-in-Err-clause-end g c =
    let n = c.args.n in
    let seq = c.args.seq in
    let lines = c.args.lines.now in
    let size = g.I.ImageDev.size c.args.image in
    let had = g.I.ImageDev.faults c.args.image in
    let has = g.I.ImageDev.faults c.in-Err.field-0.image in
    image_stays size (g.I.ImageDev.told c.args.image) (g.I.ImageDev.told c.in-Err.field-0.image) _ (g.met.I.ImageDev.counted c.args.image) c.in-Err.ensures.told
    (λ bs count. subst (λ s. IsKeepEnd n seq lines size bs bs had has s) (sym c.load_status.ensures) (load_end n seq lines size bs had has c.in-Err.field-0.fault c.in-Err.ensures.cause))
