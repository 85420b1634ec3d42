use Rattle.std.proofs.Common.{◌≡◌, ◌-◌}
use Rattle.fx_header.specs.Pointers.{blocks_in}
use Rattle.vol_parts.specs.Volumes.{volume, runs}
use Rattle.vol_parts.specs.Iter.{file_runs_left}
use Rattle.vol_parts.proofs.chains.is_broken.Given as goal

abbrev pub invariant-loop-run : goal.invariant-loop-run
invariant-loop-run l = l.left - blocks_in (file_runs_left l.run-iterator) ≡ l.first.blocks - blocks_in (runs (volume l.home l.blocks) l.n)
