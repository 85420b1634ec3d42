use Rattle.core_space.proofs.Shortage.{command_is_short}
use Rattle.core_space.proofs.search_laws.command_is_short.Goals as goal

pub returns : goal.returns
returns c = command_is_short
