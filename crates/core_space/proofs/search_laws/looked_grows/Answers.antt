use Rattle.core_space.proofs.Looked.{looked_grows}
use Rattle.core_space.proofs.search_laws.looked_grows.Goals as goal

pub returns : goal.returns
returns c = looked_grows
