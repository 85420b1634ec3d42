use Rattle.std.proofs.Common.{◌≡◌, ◌<◌, ◌≤◌, ℕ, length, get_or}
use Rattle.vol_faults.proofs.loops.join.Given as goal

abbrev pub invariant-loop-i : goal.invariant-loop-i
invariant-loop-i l = record {
  long : length l.begins ≡ length l.initial.begins;
  same : (k : ℕ) → k < l.place → get_or l.begins k 0 ≡ get_or l.initial.begins k 0;
  joined : (k : ℕ) → l.place ≤ k → k < l.i → get_or l.begins k 0 ≡ l.begin;
}
