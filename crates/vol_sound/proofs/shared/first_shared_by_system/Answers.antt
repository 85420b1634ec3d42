use Rattle.std.proofs.Common.{arith}
use Rattle.vol_parts.specs.Volumes.{volume}
use Rattle.vol_sound.proofs.SharedLemmas.{none-shared, first-shared}
use Rattle.vol_sound.proofs.shared.first_shared_by_system.Goals as goal

pub returns-in-Some : goal.returns-in-Some
returns-in-Some c =
    let v = volume c.args.home.now c.args.blocks.now in
    first-shared v c.in-Some.q (omega (arith, c.requires.limits.files_low)) c.requires.none c.in-Some.ensures

pub returns : goal.returns
returns c =
    let v = volume c.args.home.now c.args.blocks.now in
    none-shared v c.requires.none c.in-None.ensures
