use Rattle.std.proofs.Common.{◌-◌, vec_capacity, vec_len, arith}
use Rattle.extent_cache.proofs.RisingLists.{rises_within-put_in}
use Rattle.extent_cache.proofs.extents.Extents.put_clusters.Goals as goal

pub invariant_of-self : goal.invariant_of-self
invariant_of-self c =
    rw (c.put_in.ensures.items, c.put_in.ensures.capacity)
    (rises_within-put_in c.args.from c.args.n 0 65536 c.self.inside.clusters.items (omega arith) (omega arith) (rw (← c.self.view_is) at c.requires.new) c.self.invariant.0, c.self.invariant.1)

pub returns : goal.returns
returns c =
    rw (← c.self.view_is) (λ i. record {
      clusters = c.put_in.ensures.items i;
      numbers = c.self.inside.numbers.items;
      cluster_room = c.put_in.ensures.room i;
      number_room = vec_capacity c.self.inside.numbers - vec_len c.self.inside.numbers;
    })
