use Rattle.std.proofs.Common.{◌≡◌, map, take}
use Rattle.std.specs.Map.Iter.{deref_pair}
use Rattle.node_cache.specs.Cached.{Cached}
use Rattle.node_cache.specs.Views.{entries_of}
use Rattle.node_cache.proofs.cache.NodeCache.walk.Given as goal

abbrev pub invariant-loop-held : goal.invariant-loop-held
invariant-loop-held l = l.walk ≡ take 64 (map (λ (e : Cached). e.lock) (entries_of (map deref_pair l.yielded)))
