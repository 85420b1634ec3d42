use Rattle.std.proofs.Common.{not}
use Rattle.node_cache.specs.Cached.{is_under}
use Rattle.node_cache.proofs.Entries.{cache-used, cache-kept, cache-replaced, cache-filter}
use Rattle.node_cache.proofs.laws.caches_stay.Goals as goal

pub returns : goal.returns
returns c = λ es h. record {
  after_use = λ lbn lock seq. cache-used lbn lock seq es h;
  after_keep = λ e. cache-kept e es h;
  after_replace = λ e. cache-replaced e es h;
  after_forget = λ lock. cache-filter (λ e. not (is_under lock e)) es h;
}
