use Rattle.std.proofs.Common.{◌≡◌, ◌++◌, ◌+◌, drop, map}
use Rattle.plain_rules.specs.Mending.{numbers_from}
use Rattle.vol_parts.specs.declared.finding.Finding.TheVariants as finding
use Rattle.vol_parts.specs.Warnings.{is_lost_file}
use Rattle.vol_analyze.specs.Kinds.{lost_of}
use Rattle.vol_analyze.proofs.kinds.push_lost.Given as goal

abbrev pub invariant-loop-i : goal.invariant-loop-i
invariant-loop-i l =
    l.out.items ++ map finding.Lost (numbers_from (is_lost_file l.cat) (l.i + 1) (drop l.i l.cat.files)) ≡ l.initial.out.items ++ lost_of l.cat
