use Rattle.std.proofs.Common.{◌≡◌, refl, sym, subst}
use Rattle.run_engine.proofs.Given.{image_stays}
use Rattle.clus_top.specs.Ends.{IsRecordsEnd}
use Rattle.clus_top.proofs.RecordsRead.{load_end}
use Rattle.clus_top.proofs.records.read_records.Goals as goal

pub returns-in-Err-clause-end : goal.returns-in-Err-clause-end
returns-in-Err-clause-end g c =
    let n = c.args.n in
    let seq = c.args.seq in
    let size = g.I.ImageDev.size c.args.image in
    let had = g.I.ImageDev.faults c.args.image in
    let has = g.I.ImageDev.faults c.in-Err.field-0.image in
    image_stays size (g.I.ImageDev.told c.args.image) (g.I.ImageDev.told c.in-Err.field-0.image) _ (g.met.I.ImageDev.counted c.args.image) c.in-Err.ensures.told
    (λ bs count. subst (λ s. (bs ≡ bs) × IsRecordsEnd n seq size bs had has s) (sym c.load_status.ensures) (refl, load_end n seq size bs had has c.in-Err.field-0.fault c.in-Err.ensures.cause))
