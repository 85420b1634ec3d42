-- What is taken out of a stock.
use Rattle.std.specs.Prelude.{◌&&◌, ◌||◌, nat_le, nat_lt, not, ℕ, Bool, List, length, take, drop, slice_get, Option, Some, None, if◌then◌else◌}
use Rattle.extent_cache.specs.Stock.{Stock}
use Rattle.extent_cache.specs.declared.taken.Taken.{Taken}

-- it holds so many clusters, and a file number where one is wanted
abbrev pub holds_enough : ℕ → Bool → Stock → Bool
holds_enough clusters number s = nat_le clusters (length s.clusters) && (not number || nat_lt 0 (length s.numbers))

-- the lowest clusters, and the lowest file number where one is wanted
abbrev pub lowest : ℕ → Bool → Stock → Taken
lowest clusters number s = record {
  clusters = take clusters s.clusters;
  number = if number then slice_get s.numbers 0 else None;
}

-- these, or none where it holds too few
abbrev pub taken : ℕ → Bool → Stock → Option Taken
taken clusters number s = if holds_enough clusters number s then Some (lowest clusters number s) else None

-- the file numbers that stay where the lowest is taken, or none is
abbrev pub numbers_left : Bool → List ℕ → List ℕ
numbers_left number ns = if number then drop 1 ns else ns
