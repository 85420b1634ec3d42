use Rattle.run_engine.proofs.Given.{image_has}
use Rattle.run_engine.proofs.Results.{err_is}
use Rattle.clus_top.proofs.Told.{repair_told}
use Rattle.clus_top.proofs.top.repair.Goals as goal

pub returns-in-Err : goal.returns-in-Err
returns-in-Err g c =
    let size = g.I.ImageDev.size c.args.image in
    λ bytes faults.
    image_has size (g.I.ImageDev.told c.args.image) (g.I.ImageDev.told c.repair_image-outcome.result.image) _ _
    (repair_told size (g.O.TextOut.written c.args.out.now) (g.O.TextOut.written c.tell-status.new.out) faults faults (g.I.ImageDev.faults c.args.image) (g.I.ImageDev.faults c.repair_image-outcome.result.image) (g.I.ImageDev.lost c.args.image) (g.I.ImageDev.lost c.repair_image-outcome.result.image)
    (g.O.TextOut.faults c.args.out.now) (g.O.TextOut.faults c.tell-status.new.out) c.tell-status.result c.in-Err.fault c.tell-status.ensures.status c.tell-status.ensures.text bytes)
    (err_is c.repair_image-outcome.result.outcome c.in-Err.fault _ c.in-Err.is c.repair_image-outcome.ensures.end)
