use Rattle.std.proofs.Common.{◌≡◌, ◌≤◌, take}
use Rattle.std.specs.List.{count_by}
use Rattle.plain_rules.specs.Mending.{is_true}
use Rattle.vol_rebuild.proofs.mending.leaked_numbers.Given as goal

abbrev pub invariant-loop-leaked : goal.invariant-loop-leaked
invariant-loop-leaked l = record {
  value : l.count ≡ count_by is_true (take l.leaked-index l.leaked-items);
  bound : l.count ≤ l.leaked-index;
}
