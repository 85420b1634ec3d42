use Rattle.vol_sound.proofs.Settled.{is_settled}
use Rattle.vol_sound.proofs.laws.freed_is_settled.Goals as goal

pub returns : goal.returns
returns _ = is_settled
