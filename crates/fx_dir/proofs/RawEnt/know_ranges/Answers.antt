use Rattle.std.proofs.Common.{arith}
use Rattle.fx_dir.proofs.RawEnt.know_ranges.Goals as goal

pub returns : goal.returns
returns c = record { seq = omega arith; limit = omega arith; flags = omega arith }
