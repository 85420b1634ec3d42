use Rattle.std.proofs.Common.{◌≡◌, ◌++◌}
use Rattle.vol_parts.specs.Volumes.{volume, body}
use Rattle.vol_parts.specs.Iter.{file_runs_left}
use Rattle.vol_parts.proofs.Runs.{blocks_of, Inside}
use Rattle.vol_parts.proofs.bodies.body.Given as goal

abbrev pub invariant-loop-run : goal.invariant-loop-run
invariant-loop-run l = record {
  so_far : l.all ++ blocks_of (volume l.home l.blocks) (file_runs_left l.run-iterator) ≡ body (volume l.home l.blocks) l.n;
  inside : Inside (volume l.home l.blocks) (file_runs_left l.run-iterator);
}
