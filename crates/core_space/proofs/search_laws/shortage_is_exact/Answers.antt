use Rattle.core_space.proofs.Shortage.{shortage_is_exact}
use Rattle.core_space.proofs.search_laws.shortage_is_exact.Goals as goal

pub returns : goal.returns
returns c = shortage_is_exact
