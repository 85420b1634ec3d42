use Rattle.std.proofs.Common.{sym}
use Rattle.vol_faults.specs.Counts.{times_in}
use Rattle.vol_sound.proofs.clusters.count_file.Goals as goal

pub returns : goal.returns
unfolding times_in
returns c q inside = rw (sym c.file_runs.ensures) (c.count_runs.ensures q inside)
