use Rattle.vol_mends.proofs.Bitmaps.{numbers_are_set}
use Rattle.vol_mends.proofs.space.numbers_are_set.Goals as goal

pub returns : goal.returns
returns _ = numbers_are_set
