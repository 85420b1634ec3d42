use Rattle.plain_past.proofs.Growing.{own_grows}
use Rattle.plain_past.proofs.laws.own_grows.Goals as goal

pub returns : goal.returns
returns c = own_grows
