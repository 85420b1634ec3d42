use Rattle.vol_under.proofs.Frees.{refill_step}
use Rattle.vol_under.proofs.laws.refill_step.Goals as goal

pub returns : goal.returns
returns c = refill_step
