use Rattle.std.proofs.Common.{◌≡◌}
use Rattle.std.specs.List.{list_any}
use Rattle.vol_parts.specs.Iter.{file_runs_left}
use Rattle.vol_parts.specs.Fatal.{is_off_bounds}
use Rattle.vol_parts.specs.Volumes.{volume}
use Rattle.vol_sound.proofs.sound.is_any_off.Given as goal

abbrev pub invariant-loop-run : goal.invariant-loop-run
invariant-loop-run l = list_any (is_off_bounds (volume l.home l.blocks)) (file_runs_left l.run-iterator) ≡ list_any (is_off_bounds (volume l.home l.blocks)) (file_runs_left l.initial.left)
