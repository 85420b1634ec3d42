use Rattle.core_space.proofs.Apart.{writes_apart}
use Rattle.core_space.proofs.search_laws.writes_apart.Goals as goal

pub returns : goal.returns
returns c = writes_apart
