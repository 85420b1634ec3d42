use Rattle.vol_init.proofs.Doubles.{ordered_once}
use Rattle.vol_init.proofs.laws.ordered_blocks_have_no_doubles.Goals as goal

pub returns : goal.returns
returns c = ordered_once
