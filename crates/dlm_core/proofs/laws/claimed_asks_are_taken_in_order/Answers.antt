use Rattle.dlm_core.proofs.Ordered.{asks-in_order}
use Rattle.dlm_core.proofs.laws.claimed_asks_are_taken_in_order.Goals as goal

pub returns : goal.returns
returns c = asks-in_order
