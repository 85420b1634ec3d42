use Rattle.std.proofs.Common.{Option, None, Some, refl, subst}
use Rattle.vol_parts.specs.declared.finding.Finding.{Finding}
use Rattle.vol_parts.specs.Volumes.{volume}
use Rattle.vol_sound.specs.Ranks.{IsBeyondOf}
use Rattle.vol_sound.proofs.RankLemmas.{step}
use Rattle.vol_sound.proofs.beyond.first_of_volume.Goals as goal

pub returns-in-Some-2 : goal.returns-in-Some-2
returns-in-Some-2 c =
    let v = volume c.args.home.now c.args.blocks.now in
    step v 7 8 (Some c.in-Some-2.found) c.in_default.ensures.first (subst (λ (o : Option Finding). IsBeyondOf v 7 o) c.in-Some-2.is c.in_ok-found.ensures) refl

pub returns : goal.returns
returns c =
    let v = volume c.args.home.now c.args.blocks.now in
    let eight = step v 7 8 None c.in_default.ensures.first (subst (λ (o : Option Finding). IsBeyondOf v 7 o) c.in_default-2.is c.in_ok-found.ensures) refl in
    step v 8 9 c.first_bad_size.result eight c.first_bad_size.ensures refl
