use Rattle.vol_parts.specs.Volumes.{volume}
use Rattle.vol_parts.specs.Catalogues.{slot_of}
use Rattle.vol_parts.proofs.Ranges.{map-next}
use Rattle.vol_parts.proofs.catalogue.files.Goals as goal

pub loop-n-preserved : goal.loop-n-preserved
loop-n-preserved c =
    let more = map-next (slot_of (volume c.args.home.now c.args.blocks.now)) c.loop-n.n c.loop-n.auto.n in
    cc (more, c.in_ok-slot.ensures, c.in_ok-push.ensures.ok, c.loop-n.invariant)
