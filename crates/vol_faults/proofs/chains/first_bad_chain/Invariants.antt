use Rattle.std.proofs.Common.{◌≡◌, ◌<◌, ◌≤◌, ℕ, false}
use Rattle.vol_parts.specs.Volumes.{volume}
use Rattle.vol_faults.specs.Conditions.{has_bad_chain}
use Rattle.vol_faults.proofs.chains.first_bad_chain.Given as goal

abbrev pub invariant-loop-n : goal.invariant-loop-n
invariant-loop-n l = (m : ℕ) → 12 ≤ m → m < l.n → has_bad_chain (volume l.home l.blocks) m ≡ false
