use Rattle.std.proofs.Common.{◌≡◌, ◌<◌, ◌≤◌, ℕ, true}
use Rattle.std.specs.List.{list_any}
use Rattle.plain_rules.specs.SystemFiles.{is_system_entry}
use Rattle.plain_rules.specs.SystemFiles.{entries_of}
use Rattle.vol_faults.proofs.entries.lowest_missing_entry.Given as goal

abbrev pub invariant-loop-n : goal.invariant-loop-n
invariant-loop-n l = (m : ℕ) → 1 ≤ m → m < l.n → list_any (is_system_entry m) (entries_of l.cat 4) ≡ true
