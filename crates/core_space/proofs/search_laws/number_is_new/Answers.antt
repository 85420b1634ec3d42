use Rattle.core_space.proofs.Taken.{number_is_new}
use Rattle.core_space.proofs.search_laws.number_is_new.Goals as goal

pub returns : goal.returns
returns c = number_is_new
