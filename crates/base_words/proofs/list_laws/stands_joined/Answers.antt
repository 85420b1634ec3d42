use Rattle.base_words.proofs.ListWrites.{stands_joined}
use Rattle.base_words.proofs.list_laws.stands_joined.Goals as goal

pub returns : goal.returns
returns g c = stands_joined
