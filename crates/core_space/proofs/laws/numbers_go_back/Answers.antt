use Rattle.core_space.proofs.Given.{numbers_go_back}
use Rattle.core_space.proofs.laws.numbers_go_back.Goals as goal

pub returns : goal.returns
returns c = numbers_go_back
