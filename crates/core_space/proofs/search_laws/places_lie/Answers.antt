use Rattle.core_space.proofs.Looked.{places_lie}
use Rattle.core_space.proofs.search_laws.places_lie.Goals as goal

pub returns : goal.returns
returns c = places_lie
