use Rattle.plain_past.proofs.Growing.{past_of_others}
use Rattle.plain_past.proofs.laws.past_of_others.Goals as goal

pub returns : goal.returns
returns c = past_of_others
