use Rattle.std.proofs.Common.{◌≤◌, length, Some}
use Rattle.fx_dir.specs.Directory.{entries_at}
use Rattle.fx_dir.specs.Wanted.{is_wanted}
use Rattle.fx_dir.proofs.Wanted.{RecordsLeft}
use Rattle.fx_dir.proofs.searching.find_in.Given as goal

abbrev pub invariant-loop-rest : goal.invariant-loop-rest
invariant-loop-rest l = record {
  long : 2 ≤ length l.rest;
  left : RecordsLeft (is_wanted l.name l.ver) (Some (entries_at l.b)) l.rest;
}

abbrev pub decreases-loop-rest : goal.decreases-loop-rest
decreases-loop-rest l = length l.rest
