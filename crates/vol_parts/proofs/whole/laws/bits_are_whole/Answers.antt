use Rattle.vol_parts.proofs.Tables.{whole_bits}
use Rattle.vol_parts.proofs.whole.laws.bits_are_whole.Goals as goal

pub returns : goal.returns
returns c = whole_bits
