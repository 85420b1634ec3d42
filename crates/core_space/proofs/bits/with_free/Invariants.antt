use Rattle.std.proofs.Common.{◌≡◌, filter, take}
use Rattle.extent_cache.specs.Stock.{is_covered}
use Rattle.op_law.specs.Freeing.{with_free}
use Rattle.core_space.proofs.bits.with_free.Given as goal

abbrev pub invariant-loop-q : goal.invariant-loop-q
invariant-loop-q l = l.block ≡ with_free l.storage (filter (λ c. is_covered l.k c) (take l.q-index l.clusters))
