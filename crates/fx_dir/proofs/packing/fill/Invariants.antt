use Rattle.std.proofs.Common.{◌≡◌, ◌≤◌, ◌-◌, ◌++◌, None, length, take, drop}
use Rattle.base_words.specs.Packing.{filled, unfilled}
use Rattle.fx_dir.specs.Lists.{Each}
use Rattle.fx_dir.specs.Writing.{IsRanged, name_of, last_name}
use Rattle.fx_dir.proofs.packing.fill.Given as goal

abbrev pub invariant-loop-n : goal.invariant-loop-n
invariant-loop-n l = record {
  in_use : l.used ≤ 510;
  within : l.n ≤ length l.es;
  ranged : Each IsRanged (take l.n l.es);
  goes_in : filled name_of None 0 l.es ≡ take l.n l.es ++ filled name_of (last_name (take l.n l.es)) l.used (drop l.n l.es);
  left : unfilled name_of None 0 l.es ≡ unfilled name_of (last_name (take l.n l.es)) l.used (drop l.n l.es);
}

abbrev pub decreases-loop-n : goal.decreases-loop-n
decreases-loop-n l = length l.es - l.n
