use Rattle.std.proofs.Common.{◌≡◌, ◌≤◌, ◌-◌, false, drop, length}
use Rattle.fx_dir.proofs.Merging.{walk}
use Rattle.fx_dir.proofs.reading.count_met.Given as goal

abbrev pub invariant-loop-i : goal.invariant-loop-i
invariant-loop-i l = record {
  met : l.i ≤ length l.es;
  found : l.count ≤ length l.fs;
  so_far : walk l.clash (drop l.i l.es) (drop l.count l.fs) ≡ walk false l.es l.fs;
}

abbrev pub decreases-loop-i : goal.decreases-loop-i
decreases-loop-i l = length l.es - l.i
