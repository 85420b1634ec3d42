use Rattle.run_engine.proofs.Given.{image_stays}
use Rattle.run_engine.proofs.Results.{err_is}
use Rattle.clus_top.proofs.Told.{load_told}
use Rattle.clus_top.proofs.top.analyze.Goals as goal

pub returns-in-Err : goal.returns-in-Err
returns-in-Err g c =
    let size = g.I.ImageDev.size c.args.image in
    let had = g.I.ImageDev.faults c.args.image in
    let has = g.I.ImageDev.faults c.analyze_image-outcome.result.image in
    λ bytes faults.
    image_stays size (g.I.ImageDev.told c.args.image) (g.I.ImageDev.told c.analyze_image-outcome.result.image) _ (g.met.I.ImageDev.counted c.args.image) c.analyze_image-outcome.ensures.told
    (λ bs count. load_told size (g.O.TextOut.written c.args.out.now) (g.O.TextOut.written c.tell-status.new.out) faults faults had has (g.I.ImageDev.lost c.args.image) (g.I.ImageDev.lost c.analyze_image-outcome.result.image) (g.O.TextOut.faults c.args.out.now) (g.O.TextOut.faults c.tell-status.new.out)
    c.tell-status.result c.in-Err.fault c.tell-status.ensures.status c.tell-status.ensures.text bytes bs (err_is c.analyze_image-outcome.result.outcome c.in-Err.fault _ c.in-Err.is c.analyze_image-outcome.ensures.end))
