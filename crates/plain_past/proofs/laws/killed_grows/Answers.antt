use Rattle.plain_past.proofs.Growing.{killed_grows}
use Rattle.plain_past.proofs.laws.killed_grows.Goals as goal

pub returns : goal.returns
returns c = killed_grows
