use Rattle.std.proofs.Common.{◌≡◌, ◌-◌, take}
use Rattle.std.specs.List.{sum_by}
use Rattle.plain_rules.specs.Lookups.{clusters_in}
use Rattle.plain_rules.proofs.lookups.less_clusters.Given as goal

abbrev pub invariant-loop-slot : goal.invariant-loop-slot
invariant-loop-slot l = l.free ≡ l.all - sum_by clusters_in (take l.slot-index l.slots)
