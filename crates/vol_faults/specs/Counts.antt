-- In how many runs each cluster is.
use Rattle.std.specs.Prelude.{◌≡◌, ◌<◌, ℕ, List, length, min, slice_index}
use Rattle.std.specs.List.{count_by, sum_by}
use Rattle.vol_parts.specs.Volumes.{Volume, factor, total, numbers, runs, is_in_run}

-- in how many runs of the file of a number a cluster is
unfoldable pub times_in : Volume → ℕ → ℕ → ℕ
times_in v q n = count_by (is_in_run (factor v) q) (runs v n)

-- in how many runs of all files a cluster is, those that are marked for delete as well
unfoldable pub times : Volume → ℕ → ℕ
times v q = sum_by (times_in v q) (numbers v)

-- for each cluster of the volume in how many runs it is, where 2 stands for all from there on
pub record AreCounts (v : Volume) (counts : List ℕ) : Type 0 where
  pub all : length counts ≡ total v
  pub each : (q : ℕ) → q < total v → slice_index counts q ≡ min 2 (times v q)
