use Rattle.core_space.proofs.Refused.{full_is_whole}
use Rattle.core_space.proofs.laws.full_is_whole.Goals as goal

pub returns : goal.returns
returns c = full_is_whole
