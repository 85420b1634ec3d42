use Rattle.std.proofs.Common.{◌≡◌, map}
use Rattle.std.specs.Map.Iter.{deref_pair}
use Rattle.node_cache.specs.Cached.{locks_of}
use Rattle.node_cache.specs.Views.{entries_of}
use Rattle.node_cache.proofs.cache.NodeCache.locks_used.Given as goal

abbrev pub invariant-loop-held : goal.invariant-loop-held
invariant-loop-held l = l.locks.items ≡ locks_of (entries_of (map deref_pair l.yielded))
