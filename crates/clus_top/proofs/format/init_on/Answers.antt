use Rattle.std.proofs.Common.{◌≡◌, ◌∙◌, Err, IfSome, length, sym, ap, subst}
use Rattle.blk_drive.specs.Images.{IsInside}
use Rattle.vol_init.specs.Refusals.{home_of}
use Rattle.run_engine.specs.Inputs.{Leaves}
use Rattle.run_engine.proofs.Results.{err_is}
use Rattle.clus_top.specs.Ends.{IsInitEnd}
use Rattle.clus_top.specs.Images.{IsFormatted}
use Rattle.clus_top.proofs.Formatted.{fault_left, not_formatted}
use Rattle.clus_top.proofs.format.init_on.Goals as goal

pub returns-in-Err-clause-end : goal.returns-in-Err-clause-end
returns-in-Err-clause-end g c =
    let cluster = c.args.cluster in
    let files = c.args.files in
    let label = c.args.label.now in
    let told = g.I.ImageDev.told c.args.m.now.image in
    let now = g.I.ImageDev.told c.init.new.m.image in
    let had = g.I.ImageDev.faults c.args.m.now.image in
    let has = g.I.ImageDev.faults c.init.new.m.image in
    let old = c.args.m.now.blocks in
    let inside : IsInside (length old) = subst IsInside c.size-blocks.ensures.blocks c.size-blocks.ensures.inside in
    subst (λ s. Leaves told now (λ new. IsInitEnd cluster files label (length old) had has s × IsFormatted (home_of cluster files label) old new s)) (sym c.init_status.ensures)
    (not_formatted cluster files label (length old) told now old had has c.requires.told inside c.in-Err.fault (err_is c.init.result c.in-Err.fault _ c.in-Err.is c.init.ensures.cause)
    (λ x e. ap (λ m. g.I.ImageDev.told m.image) (subst (λ o. IfSome o (λ f. c.init.new.m ≡ c.args.m.now)) e c.init.ensures.same))
    (λ e. ap (λ m. g.I.ImageDev.told m.image) (c.init.ensures.memory (c.in-Err.is ∙ ap Err e)))
    (λ e. fault_left (home_of cluster files label) told now old c.requires.told (λ t. c.init.ensures.fault t (c.in-Err.is ∙ ap Err e)) c.init.ensures.untold))
