use Rattle.std.proofs.Common.{◌≡◌, ◌<◌, ℕ, false}
use Rattle.std.specs.Prelude.{nat_le}
use Rattle.vol_parts.specs.Volumes.{volume}
use Rattle.vol_sound.specs.Clusters.{system_times}
use Rattle.vol_sound.proofs.shared.lowest_twice.Given as goal

abbrev pub invariant-loop-q : goal.invariant-loop-q
invariant-loop-q l = (p : ℕ) → p < l.q → nat_le 2 (system_times (volume l.home l.blocks) p) ≡ false
