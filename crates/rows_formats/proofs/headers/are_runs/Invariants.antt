use Rattle.std.proofs.Common.{◌≡◌, ◌+◌, take}
use Rattle.fx_header.specs.Pointers.{AreRuns, blocks_in}
use Rattle.rows_formats.proofs.headers.are_runs.Given as goal

abbrev pub invariant-loop-run : goal.invariant-loop-run
invariant-loop-run l = record {
  runs : AreRuns (take l.run-index l.runs);
  blocks : blocks_in (take l.run-index l.runs) + l.left ≡ 65536;
}
