use Rattle.core_space.proofs.Merged.{stocks_take_all}
use Rattle.core_space.proofs.laws.stocks_take_all.Goals as goal

pub returns : goal.returns
returns c = stocks_take_all
