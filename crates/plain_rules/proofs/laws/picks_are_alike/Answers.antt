use Rattle.plain_rules.proofs.Picks.{picks_alike}
use Rattle.plain_rules.proofs.laws.picks_are_alike.Goals as goal

pub returns : goal.returns
returns c = picks_alike
