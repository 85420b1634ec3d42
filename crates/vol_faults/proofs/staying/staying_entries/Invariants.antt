use Rattle.std.proofs.Common.{◌≡◌, take}
use Rattle.vol_faults.specs.Waiting.{staying}
use Rattle.vol_faults.proofs.staying.staying_entries.Given as goal

abbrev pub invariant-loop-entry : goal.invariant-loop-entry
invariant-loop-entry l = l.kept ≡ staying l.cat l.dir (take l.entry-index l.entry-items)
