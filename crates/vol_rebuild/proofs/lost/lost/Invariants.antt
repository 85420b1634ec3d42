use Rattle.std.proofs.Common.{◌≡◌, ◌≤◌, ◌++◌, ◌+◌, drop, length}
use Rattle.plain_rules.specs.Mending.{is_lost_slot, numbers_from}
use Rattle.vol_rebuild.proofs.lost.lost.Given as goal

abbrev pub invariant-loop-i : goal.invariant-loop-i
invariant-loop-i l = record {
  so_far : l.found.items ++ numbers_from (is_lost_slot l.cat l.empty) (l.i + 1) (drop l.i l.cat.files) ≡ numbers_from (is_lost_slot l.cat l.empty) 1 l.cat.files;
  few : length l.found.items ≤ l.i;
}
