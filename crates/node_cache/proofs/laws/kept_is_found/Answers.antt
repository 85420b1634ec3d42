use Rattle.node_cache.proofs.Entries.{found-kept}
use Rattle.node_cache.proofs.laws.kept_is_found.Goals as goal

pub returns : goal.returns
returns c = found-kept
