use Rattle.std.proofs.Common.{◌≡◌, ◌≤◌, ◌++◌, ◌+◌, drop, length}
use Rattle.plain_rules.specs.Mending.{numbers_from}
use Rattle.vol_rebuild.specs.Leaving.{is_gone_slot}
use Rattle.vol_rebuild.proofs.slots.gone_of.Given as goal

abbrev pub invariant-loop-i : goal.invariant-loop-i
invariant-loop-i l = record {
  so_far : l.found.items ++ numbers_from (is_gone_slot l.cat) (l.i + 1) (drop l.i l.cat.files) ≡ numbers_from (is_gone_slot l.cat) 1 l.cat.files;
  few : length l.found.items ≤ l.i;
}
