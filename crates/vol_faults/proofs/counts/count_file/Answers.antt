use Rattle.std.proofs.Common.{sym}
use Rattle.vol_faults.specs.Counts.{times_in}
use Rattle.vol_faults.proofs.counts.count_file.Goals as goal

pub count_runs-requires-clause-runs : goal.count_runs-requires-clause-runs
count_runs-requires-clause-runs c = rw c.file_runs.ensures (c.requires.runs.inside c.args.n c.requires.number).inside

pub returns : goal.returns
unfolding times_in
returns c q = rw (sym c.file_runs.ensures) (c.count_runs.ensures q)
