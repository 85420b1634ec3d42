use Rattle.std.proofs.Common.{◌≡◌, ◌≤◌, ◌+◌, drop}
use Rattle.std.specs.List.{insert}
use Rattle.std.specs.Option.{option_copied}
use Rattle.plain_rules.specs.Directories.{fits}
use Rattle.plain_rules.proofs.Packs.{packs}
use Rattle.plain_rules.proofs.packing.packs_with.Given as goal

abbrev pub invariant-loop-i : goal.invariant-loop-i
invariant-loop-i l = record {
  room : l.used ≤ 510;
  left : packs l.left l.used (option_copied l.last) (drop l.i (insert l.ents l.at l.e)) ≡ fits (l.fn.more + 1) (insert l.ents l.at l.e);
}
