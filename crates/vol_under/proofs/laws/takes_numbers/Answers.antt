use Rattle.vol_under.proofs.Refills.{takes_numbers}
use Rattle.vol_under.proofs.laws.takes_numbers.Goals as goal

pub returns : goal.returns
returns c = takes_numbers
