use Rattle.core_space.proofs.Taken.{takes_all}
use Rattle.core_space.proofs.search_laws.takes_all.Goals as goal

pub returns : goal.returns
returns c = takes_all
