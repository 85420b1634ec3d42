use Rattle.std.proofs.Common.{◌≡◌}
use Rattle.vol_parts.specs.Iter.{file_runs_left}
use Rattle.vol_parts.specs.Volumes.{volume}
use Rattle.vol_sound.specs.Clusters.{are_once}
use Rattle.vol_sound.proofs.sound.are_once.Given as goal

abbrev pub invariant-loop-run : goal.invariant-loop-run
invariant-loop-run l = are_once (volume l.home l.blocks) l.counts (file_runs_left l.run-iterator) ≡ are_once (volume l.home l.blocks) l.counts (file_runs_left l.initial.left)
