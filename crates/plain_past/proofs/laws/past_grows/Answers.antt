use Rattle.plain_past.proofs.Growing.{past_grows}
use Rattle.plain_past.proofs.laws.past_grows.Goals as goal

pub returns : goal.returns
returns c = past_grows
