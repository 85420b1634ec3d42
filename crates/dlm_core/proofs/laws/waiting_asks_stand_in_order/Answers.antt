use Rattle.dlm_core.proofs.Ordered.{queue-ordered}
use Rattle.dlm_core.proofs.laws.waiting_asks_stand_in_order.Goals as goal

pub returns : goal.returns
returns c = queue-ordered
