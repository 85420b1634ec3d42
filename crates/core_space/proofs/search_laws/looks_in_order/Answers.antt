use Rattle.core_space.proofs.Ending.{looks_in_order}
use Rattle.core_space.proofs.search_laws.looks_in_order.Goals as goal

pub returns : goal.returns
returns c = looks_in_order
