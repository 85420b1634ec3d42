use Rattle.base_words.proofs.ListWrites.{stands_still}
use Rattle.base_words.proofs.list_laws.stands_still.Goals as goal

pub returns : goal.returns
returns g c = stands_still
