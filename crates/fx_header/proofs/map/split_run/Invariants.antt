use Rattle.std.proofs.Common.{◌≡◌, ◌<◌, length}
use Rattle.fx_header.specs.Pointers.{AreRuns, IsRun, joined, merged}
use Rattle.fx_header.proofs.map.split_run.Given as goal

abbrev pub invariant-loop-next : goal.invariant-loop-next
invariant-loop-next l = record {
  merges : joined l.run (merged l.behind) ≡ merged l.fn.runs;
  run : IsRun l.run;
  others : AreRuns l.behind;
  shorter : length l.behind < length l.fn.runs;
}

abbrev pub decreases-loop-next : goal.decreases-loop-next
decreases-loop-next l = length l.behind
