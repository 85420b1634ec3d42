use Rattle.std.proofs.Common.{◌≡◌, ◌++◌}
use Rattle.fx_header.specs.Pointers.{lbns_in}
use Rattle.vol_parts.specs.Iter.{file_runs_left}
use Rattle.vol_parts.specs.Volumes.{volume, runs}
use Rattle.vol_parts.proofs.Runs.{Inside}
use Rattle.vol_spell.proofs.lbns.runs_lbns.Given as goal

abbrev pub invariant-loop-run : goal.invariant-loop-run
invariant-loop-run l = record {
  so_far : l.list.items ++ lbns_in (file_runs_left l.run-iterator) ≡ lbns_in (runs (volume l.home l.blocks) l.n);
  inside : Inside (volume l.home l.blocks) (file_runs_left l.run-iterator);
}
