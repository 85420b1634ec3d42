use Rattle.std.proofs.Common.{◌≡◌, ◌-◌, map}
use Rattle.std.specs.List.{range_with_len}
use Rattle.vol_parts.specs.Volumes.{volume}
use Rattle.vol_sound.specs.Sound.{is_sound}
use Rattle.vol_sound.proofs.sound.sound_files.Given as goal

abbrev pub invariant-loop-n : goal.invariant-loop-n
invariant-loop-n l = l.sound.items ≡ map (is_sound (volume l.home l.blocks)) (range_with_len 1 (l.n - 1))
