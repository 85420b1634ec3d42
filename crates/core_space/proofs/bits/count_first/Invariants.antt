use Rattle.std.proofs.Common.{◌≡◌, ◌≤◌, ◌*◌, take, length}
use Rattle.core_space.specs.Searching.{free_from}
use Rattle.core_space.specs.Answering.{blocks_alone}
use Rattle.core_space.proofs.bits.count_first.Given as goal

abbrev pub invariant-loop-k : goal.invariant-loop-k
invariant-loop-k l = (l.count ≡ length (free_from l.geometry 0 (take l.k (blocks_alone l.storage)))) × (l.count ≤ 4096 * l.k)
