use Rattle.std.proofs.Common.{◌≡◌, ◌≤◌, ◌-◌, ◌%◌, filter, length}
use Rattle.std.specs.List.{range_with_len}
use Rattle.fx_bitmap.specs.Bits.{bit_at}
use Rattle.core_space.proofs.bits.count_in.Given as goal

abbrev pub invariant-loop-q : goal.invariant-loop-q
invariant-loop-q l = (l.count ≡ length (filter (λ q. bit_at l.block (q % 4096)) (range_with_len l.first (l.q - l.first)))) × (l.count ≤ l.q - l.first) × (l.q - l.first ≤ l.end - l.first)
