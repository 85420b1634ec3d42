use Rattle.vol_under.proofs.Short.{free_by_bits}
use Rattle.vol_under.proofs.laws.free_by_bits.Goals as goal

pub returns : goal.returns
returns c = free_by_bits
