use Rattle.vol_parts.specs.Volumes.{volume}
use Rattle.vol_parts.proofs.Ranges.{map-next}
use Rattle.vol_sound.specs.Sound.{is_sound}
use Rattle.vol_sound.proofs.sound.sound_files.Goals as goal

pub loop-n-preserved : goal.loop-n-preserved
loop-n-preserved c =
    let more = map-next (is_sound (volume c.args.home.now c.args.blocks.now)) c.loop-n.n c.loop-n.auto.n in
    cc (more, c.in_ok-is_sound.ensures, c.in_ok-push.ensures.items, c.loop-n.invariant)
