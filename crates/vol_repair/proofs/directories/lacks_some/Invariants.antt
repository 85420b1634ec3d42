use Rattle.std.proofs.Common.{◌≡◌, ◌≤◌, ◌<◌, ℕ, true}
use Rattle.vol_repair.specs.Remaking.{names_system}
use Rattle.vol_repair.proofs.directories.lacks_some.Given as goal

-- the entries of the system files so far are there
abbrev pub invariant-loop-n : goal.invariant-loop-n
invariant-loop-n l = record { found : (k : ℕ) → 1 ≤ k → k < l.n → names_system l.entries k ≡ true }
