use Rattle.std.proofs.Common.{◌≡◌, ◌≤◌, take, count_by}
use Rattle.run_engine.specs.Reports.{is_death}
use Rattle.run_engine.proofs.reports.deaths.Given as goal

abbrev pub invariant-loop-e : goal.invariant-loop-e
invariant-loop-e l = (l.n ≡ count_by is_death (take l.e-index l.entries)) × (l.n ≤ l.e-index)
