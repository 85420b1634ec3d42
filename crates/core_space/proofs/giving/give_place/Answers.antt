use Rattle.std.proofs.Common.{rules}
use Rattle.core_space.specs.Giving.{give_place}
use Rattle.core_space.proofs.giving.give_place.Goals as goal

pub returns-then-not-is_seen : goal.returns-then-not-is_seen
unfolding give_place
returns-then-not-is_seen c = search rules

pub returns : goal.returns
unfolding give_place
returns c = search rules
