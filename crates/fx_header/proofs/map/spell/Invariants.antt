use Rattle.std.proofs.Common.{◌≡◌, ◌≤◌, ◌++◌, length, take}
use Rattle.fx_header.specs.Pointers.{AreRuns, map_words}
use Rattle.fx_header.proofs.map.spell.Given as goal

abbrev pub invariant-loop-run : goal.invariant-loop-run
invariant-loop-run l = record {
  so_far : take l.used l.map ++ map_words l.left ≡ map_words l.fn.runs;
  runs : AreRuns l.left;
  within : l.used ≤ l.room;
  long : length l.map ≡ 512;
}

abbrev pub decreases-loop-run : goal.decreases-loop-run
decreases-loop-run l = length l.left
