use Rattle.std.proofs.Common.{◌≡◌, drop}
use Rattle.plain_rules.specs.Directories.{is_nil}
use Rattle.vol_faults.specs.Waiting.{staying}
use Rattle.vol_faults.proofs.staying.none_stays.Given as goal

abbrev pub invariant-loop-entry : goal.invariant-loop-entry
invariant-loop-entry l = is_nil (staying l.cat l.dir (drop l.entry-index l.entries)) ≡ is_nil (staying l.cat l.dir l.entries)
