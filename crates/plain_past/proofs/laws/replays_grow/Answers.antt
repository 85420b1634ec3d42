use Rattle.plain_past.proofs.Growing.{replays_grow}
use Rattle.plain_past.proofs.laws.replays_grow.Goals as goal

pub returns : goal.returns
returns c = replays_grow
