use Rattle.node_cache.proofs.Entries.{cache-nil}
use Rattle.node_cache.proofs.cache.NodeCache.clear.Goals as goal

pub invariant_of-self : goal.invariant_of-self
invariant_of-self c = rw c.clear.ensures (cache-nil, c.self.invariant.1)
