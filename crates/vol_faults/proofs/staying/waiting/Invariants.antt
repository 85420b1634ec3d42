use Rattle.std.proofs.Common.{◌≡◌, ◌++◌, ◌+◌, drop}
use Rattle.plain_rules.specs.Mending.{numbers_from}
use Rattle.vol_faults.specs.Waiting.{is_waiting}
use Rattle.vol_faults.proofs.staying.waiting.Given as goal

abbrev pub invariant-loop-i : goal.invariant-loop-i
invariant-loop-i l =
    l.found.items ++ numbers_from (is_waiting l.cat) (l.i + 1) (drop l.i l.cat.files) ≡ numbers_from (is_waiting l.cat) 1 l.cat.files
