use Rattle.std.proofs.Common.{sym}
use Rattle.vol_faults.specs.Conditions.{has_run_off}
use Rattle.vol_sound.proofs.sound.is_sound.Goals as goal

pub dir_fault-requires-clause-runs : goal.dir_fault-requires-clause-runs
unfolding has_run_off
dir_fault-requires-clause-runs c = record { inside = sym c.if-has_run_off.ensures }
