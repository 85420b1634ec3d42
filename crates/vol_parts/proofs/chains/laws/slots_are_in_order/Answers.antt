use Rattle.vol_parts.proofs.Walks.{begins-there, slots-few, slots-numbers, slots-rise, slots-once}
use Rattle.vol_parts.proofs.chains.laws.slots_are_in_order.Goals as goal

pub returns : goal.returns
returns c = record { first = begins-there; few = slots-few; numbers = slots-numbers; rise = slots-rise; once = slots-once }
