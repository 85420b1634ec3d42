use Rattle.core_space.proofs.Writes.{takings_refill}
use Rattle.core_space.proofs.search_laws.takings_refill.Goals as goal

pub returns : goal.returns
returns c = takings_refill
