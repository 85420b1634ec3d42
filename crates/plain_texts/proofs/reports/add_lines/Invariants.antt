use Rattle.std.proofs.Common.{◌≡◌, ◌++◌, ◌+◌, drop}
use Rattle.plain_texts.specs.Reports.{lines_from}
use Rattle.plain_texts.proofs.reports.add_lines.Given as goal

-- what is written, and the lines of what is left, are all lines
abbrev pub invariant-loop-i : goal.invariant-loop-i
invariant-loop-i l = l.out.items ++ lines_from (l.i + 1) (drop l.i l.entries) ≡ l.initial.out.items ++ lines_from 1 l.entries
