use Rattle.base_words.proofs.ListWrites.{touches_joined}
use Rattle.base_words.proofs.list_laws.touches_joined.Goals as goal

pub returns : goal.returns
returns g c = touches_joined
