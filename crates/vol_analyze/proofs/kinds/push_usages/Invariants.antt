use Rattle.std.proofs.Common.{◌≡◌, ◌++◌, drop, map, filter}
use Rattle.vol_parts.specs.Warnings.{is_miscounted, usage_found}
use Rattle.vol_analyze.specs.Kinds.{usages_of}
use Rattle.vol_analyze.proofs.kinds.push_usages.Given as goal

abbrev pub invariant-loop-row : goal.invariant-loop-row
invariant-loop-row l =
    l.out.items ++ map (usage_found l.cat) (filter (is_miscounted l.cat) (drop l.row-index l.cat.quota)) ≡ l.initial.out.items ++ usages_of l.cat
