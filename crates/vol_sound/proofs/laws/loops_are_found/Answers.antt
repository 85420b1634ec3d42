use Rattle.vol_sound.proofs.LeadingBack.{loops_are_found}
use Rattle.vol_sound.proofs.laws.loops_are_found.Goals as goal

pub returns : goal.returns
returns _ = loops_are_found
