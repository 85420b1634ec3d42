use Rattle.std.proofs.Common.{◌≡◌, ◌<◌, ℕ, None, length, get_or}
use Rattle.vol_faults.proofs.keeping.no_firsts.Given as goal

abbrev pub invariant-loop-slot : goal.invariant-loop-slot
invariant-loop-slot l = record {
  long : length l.table.items ≡ l._slot-index;
  none : (i : ℕ) → i < length l.table.items → get_or l.table.items i None ≡ None;
}
