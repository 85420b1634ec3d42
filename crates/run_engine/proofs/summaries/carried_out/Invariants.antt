use Rattle.std.proofs.Common.{◌≡◌, ◌≤◌, take, count_by}
use Rattle.run_engine.specs.Summaries.{is_carried_out}
use Rattle.run_engine.proofs.summaries.carried_out.Given as goal

abbrev pub invariant-loop-e : goal.invariant-loop-e
invariant-loop-e l = (l.n ≡ count_by is_carried_out (take l.e-index l.entries)) × (l.n ≤ l.e-index)
