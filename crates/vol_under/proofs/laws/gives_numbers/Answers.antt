use Rattle.vol_under.proofs.Refills.{gives_numbers}
use Rattle.vol_under.proofs.laws.gives_numbers.Goals as goal

pub returns : goal.returns
returns c = gives_numbers
