use Rattle.std.proofs.Common.{◌≡◌, ◌≤◌, ◌-◌, take, filter, not}
use Rattle.std.specs.List.{All, range_with_len}
use Rattle.fx_bitmap.specs.Bits.{bit_at}
use Rattle.core_space.proofs.bits.lowest_numbers.Given as goal

abbrev pub invariant-loop-n : goal.invariant-loop-n
invariant-loop-n l = (l.numbers ≡ take 9 (filter (λ n. not (bit_at l.index (n - 1))) (range_with_len 1 (l.n - 1)))) × All (λ n. (1 ≤ n) × (n ≤ 4096)) l.numbers
