use Rattle.std.proofs.Common.{◌≡◌, ◌++◌, ◌+◌, drop, map}
use Rattle.plain_rules.specs.Mending.{numbers_from}
use Rattle.vol_parts.specs.declared.finding.Finding.TheVariants as finding
use Rattle.vol_parts.specs.Warnings.{is_marked}
use Rattle.vol_analyze.specs.Kinds.{marked_of}
use Rattle.vol_analyze.proofs.kinds.push_marked.Given as goal

abbrev pub invariant-loop-i : goal.invariant-loop-i
invariant-loop-i l =
    l.out.items ++ map finding.Marked (numbers_from is_marked (l.i + 1) (drop l.i l.cat.files)) ≡ l.initial.out.items ++ marked_of l.cat
