use Rattle.std.proofs.Common.{◌≡◌, ◌++◌, ◌+◌, drop}
use Rattle.plain_rules.specs.Mending.{each_from, less_entries}
use Rattle.plain_vol.proofs.mending.less_files.Given as goal

abbrev pub invariant-loop-i : goal.invariant-loop-i
invariant-loop-i l = l.files ++ each_from (less_entries l.cat) (l.i + 1) (drop l.i l.cat.files) ≡ each_from (less_entries l.cat) 1 l.cat.files
