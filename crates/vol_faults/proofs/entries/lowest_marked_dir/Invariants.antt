use Rattle.std.proofs.Common.{◌≡◌, ◌<◌, ◌≤◌, ℕ, false}
use Rattle.plain_rules.specs.Lookups.{file_at}
use Rattle.vol_parts.specs.Fatal.{is_marked_dir}
use Rattle.vol_faults.proofs.entries.lowest_marked_dir.Given as goal

abbrev pub invariant-loop-n : goal.invariant-loop-n
invariant-loop-n l = (m : ℕ) → 1 ≤ m → m < l.n → is_marked_dir (file_at l.cat m) ≡ false
