use Rattle.std.proofs.Common.{◌≡◌, ◌-◌, ◌<◌, ◌≤◌, ℕ, true}
use Rattle.fx_bitmap.specs.Bits.{bit_at}
use Rattle.fx_bitmap.proofs.first_clear_from.Given as goal

abbrev pub invariant-loop-i : goal.invariant-loop-i
invariant-loop-i l = record {
  from : l.fn.from ≤ l.i;
  set : (j : ℕ) → l.fn.from ≤ j → j < l.i → bit_at l.b j ≡ true;
}

abbrev pub decreases-loop-i : goal.decreases-loop-i
decreases-loop-i l = 4096 - l.i
