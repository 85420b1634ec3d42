-- In how many runs of some of the files each cluster is, and where the clusters of a run lie.
use Rattle.std.specs.Prelude.{◌≡◌, ◌<◌, ◌≤◌, ◌==◌, ◌&&◌, ◌||◌, not, nat_le, nat_lt, ℕ, Bool, List, length, min, slice_index}
use Rattle.std.specs.List.{sum_by, list_all, list_any, range_with_len}
use Rattle.fx_header.specs.declared.run.Run.{Run}
use Rattle.vol_parts.specs.Volumes.{Volume, factor, total, is_in_run}
use Rattle.vol_faults.specs.Counts.{times_in}

-- in how many runs of the system files a cluster is
unfoldable pub system_times : Volume → ℕ → ℕ
system_times v q = sum_by (times_in v q) (range_with_len 1 11)

-- for each cluster of the volume how often it is counted, where 2 stands for all from there on
pub record AreTimes (v : Volume) (times : ℕ → ℕ) (counts : List ℕ) : Type 0 where
  pub all : length counts ≡ total v
  pub each : (q : ℕ) → q < total v → slice_index counts q ≡ min 2 (times q)

-- the clusters of a volume from one on and before another one are those in which a run has a block
pub record AreOfRun (v : Volume) (r : Run) (from to : ℕ) : Type 0 where
  pub order : from ≤ to
  pub inside : to ≤ total v
  pub within : (q : ℕ) → q < total v → is_in_run (factor v) q r ≡ (nat_le from q && nat_lt q to)

-- each cluster of the volume that is in one of these runs is counted once
unfoldable pub are_once : Volume → List ℕ → List Run → Bool
are_once v counts rs = list_all (λ q. not (list_any (is_in_run (factor v) q) rs) || (slice_index counts q == 1)) (range_with_len 0 (total v))
