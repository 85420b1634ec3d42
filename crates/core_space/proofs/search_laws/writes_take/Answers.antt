use Rattle.core_space.proofs.Writes.{writes_take}
use Rattle.core_space.proofs.search_laws.writes_take.Goals as goal

pub returns : goal.returns
returns c = writes_take
