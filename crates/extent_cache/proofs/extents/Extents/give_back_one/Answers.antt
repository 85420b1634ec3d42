use Rattle.std.proofs.Common.{not}
use Rattle.extent_cache.specs.Stock.{is_covered}
use Rattle.extent_cache.proofs.RisingLists.{rises_within-filter}
use Rattle.extent_cache.proofs.extents.Extents.give_back_one.Goals as goal

pub invariant_of-self : goal.invariant_of-self
invariant_of-self c =
    rw (c.drop_covered.ensures.items, c.drop_covered.ensures.capacity)
    (rises_within-filter (λ x. not (is_covered c.in-Some.block x)) 0 65536 c.self.inside.clusters.items c.self.invariant.0, c.self.invariant.1)
