use Rattle.vol_parts.specs.Volumes.{volume}
use Rattle.vol_parts.specs.Catalogues.{is_outside_number}
use Rattle.vol_parts.proofs.Ranges.{map-next}
use Rattle.vol_parts.proofs.catalogue.outside_numbers.Goals as goal

pub loop-n-preserved : goal.loop-n-preserved
loop-n-preserved c =
    let more = map-next (is_outside_number (volume c.args.home.now c.args.blocks.now)) c.loop-n.n c.loop-n.auto.n in
    cc (more, c.is_outside_number.ensures, c.in_ok-push.ensures.ok, c.loop-n.invariant)
