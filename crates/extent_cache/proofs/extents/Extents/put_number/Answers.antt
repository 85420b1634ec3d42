use Rattle.std.proofs.Common.{◌-◌, vec_capacity, vec_len, arith}
use Rattle.extent_cache.proofs.RisingLists.{rises_within-put_in}
use Rattle.extent_cache.proofs.extents.Extents.put_number.Goals as goal

pub invariant_of-self : goal.invariant_of-self
invariant_of-self c =
    rw (c.put_in.ensures.items, c.put_in.ensures.capacity)
    (c.self.invariant.0, (rises_within-put_in c.args.n 1 1 4097 c.self.inside.numbers.items c.requires.least (omega arith) (rw (← c.self.view_is) at c.requires.new) c.self.invariant.1.0, c.self.invariant.1.1))

pub returns : goal.returns
returns c =
    rw (← c.self.view_is) (λ i. record {
      clusters = c.self.inside.clusters.items;
      numbers = c.put_in.ensures.items i;
      cluster_room = vec_capacity c.self.inside.clusters - vec_len c.self.inside.clusters;
      number_room = c.put_in.ensures.room i;
    })
