use Rattle.std.proofs.Common.{◌≡◌, length}
use Rattle.node_cache.specs.Cached.{without_lock}
use Rattle.node_cache.proofs.cache.NodeCache.forget_lock.Given as goal

abbrev pub invariant-loop-lbn : goal.invariant-loop-lbn
invariant-loop-lbn l = without_lock l.lock l.self ≡ without_lock l.lock l.fn.self

abbrev pub decreases-loop-lbn : goal.decreases-loop-lbn
decreases-loop-lbn l = length l.self
