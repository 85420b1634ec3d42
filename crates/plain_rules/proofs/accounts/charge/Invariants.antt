use Rattle.std.proofs.Common.{◌≡◌, ◌≤◌, ◌*◌, take}
use Rattle.std.specs.List.{sum_by}
use Rattle.plain_rules.specs.Accounts.{share}
use Rattle.plain_rules.proofs.accounts.charge.Given as goal

abbrev pub invariant-loop-slot : goal.invariant-loop-slot
invariant-loop-slot l = record {
  value : l.sum ≡ sum_by (share l.cat l.owner) (take l.slot-index l.slot-items);
  bound : l.sum ≤ 65537 * l.slot-index;
}
