use Rattle.core_space.proofs.Ways.{search_ends}
use Rattle.core_space.proofs.search_laws.search_ends.Goals as goal

pub returns : goal.returns
returns c = search_ends
