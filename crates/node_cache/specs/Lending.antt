-- What a cache is once the look at one of its blocks has ended.
use Rattle.std.specs.Prelude.{◌≡◌, List, ⊤}
use Rattle.std.specs.Borrow.{Fml, MutBor, follows_so}
use mathlib.Core.Option.{none}
use Rattle.node_cache.specs.Cached.{Cached}
use Rattle.node_cache.specs.contracts.cache.NodeCache.{the_row}

-- the cache has these entries then
abbrev pub EndsAs : MutBor (List Cached) → List Cached → Fml
EndsAs c es = follows_so the_row the_row c.ghost_name none (λ _ _. ⊤) (λ n. n ≡ es)
