use Rattle.std.proofs.Common.{◌≤◌, ◌+◌, length, arith}
use Rattle.extent_cache.proofs.RisingLists.{length-rises}
use Rattle.extent_cache.proofs.extents.Extents.count.Goals as goal

pub overflow_cast-result : goal.overflow_cast-result
overflow_cast-result c =
    let few : 0 + length c.self.inside.clusters.items ≤ 65536 = length-rises 0 65536 c.self.inside.clusters.items (omega arith) c.self.invariant.0 in
    omega (arith, c.len.ensures)
