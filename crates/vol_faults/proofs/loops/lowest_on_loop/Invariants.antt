use Rattle.std.proofs.Common.{◌≡◌, ◌<◌, ◌≤◌, [], ℕ, false}
use Rattle.vol_faults.specs.Walking.{is_new, place_of, IsWalk}
use Rattle.vol_faults.proofs.loops.lowest_on_loop.Given as goal

abbrev pub invariant-loop-n : goal.invariant-loop-n
invariant-loop-n l = record {
  walk : IsWalk l.cat l.walk;
  none : l.walk.way.items ≡ [];
  begun : (k : ℕ) → 1 ≤ k → k < l.n → is_new (place_of l.walk k) ≡ false;
}
