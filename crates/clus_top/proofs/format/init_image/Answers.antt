use Rattle.std.proofs.Common.{sym, subst}
use Rattle.vol_init.specs.Refusals.{home_of}
use Rattle.run_engine.proofs.Given.{image_stays}
use Rattle.clus_top.specs.Ends.{IsInitEnd}
use Rattle.clus_top.specs.Images.{IsFormatted}
use Rattle.clus_top.proofs.Formatted.{load_end}
use Rattle.clus_top.proofs.format.init_image.Goals as goal

pub returns-in-Err-clause-end : goal.returns-in-Err-clause-end
returns-in-Err-clause-end g c =
    let cluster = c.args.cluster in
    let files = c.args.files in
    let label = c.args.label.now in
    let size = g.I.ImageDev.size c.args.image in
    let had = g.I.ImageDev.faults c.args.image in
    let has = g.I.ImageDev.faults c.in-Err.field-0.image in
    image_stays size (g.I.ImageDev.told c.args.image) (g.I.ImageDev.told c.in-Err.field-0.image) _ (g.met.I.ImageDev.counted c.args.image) c.in-Err.ensures.told
    (λ bs count. subst (λ s. IsInitEnd cluster files label size had has s × IsFormatted (home_of cluster files label) bs bs s) (sym c.load_status.ensures)
    (load_end cluster files label size bs had has c.in-Err.field-0.fault c.in-Err.ensures.cause))
