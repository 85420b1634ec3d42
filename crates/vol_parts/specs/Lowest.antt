-- The lowest number that passes a test.
use Rattle.std.specs.Prelude.{◌≡◌, ◌+◌, ◌≤◌, ◌<◌, ℕ, Bool, true, false, Option, Some, None}

-- the lowest of the numbers from a first one on, so many of them, that passes a test, or none where all fail
abbrev pub IsLowest : (ℕ → Bool) → ℕ → ℕ → Option ℕ → Type 0
IsLowest test from count None = (n : ℕ) → from ≤ n → n < from + count → test n ≡ false
IsLowest test from count (Some n) =
    (from ≤ n) × (n < from + count) × (test n ≡ true) × ((m : ℕ) → from ≤ m → m < n → test m ≡ false)
