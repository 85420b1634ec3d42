use Rattle.base_words.proofs.ListWrites.{touched_alike}
use Rattle.base_words.proofs.list_laws.touched_alike.Goals as goal

pub returns : goal.returns
returns g c = touched_alike
