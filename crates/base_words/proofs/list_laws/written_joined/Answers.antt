use Rattle.base_words.proofs.ListWrites.{written_joined}
use Rattle.base_words.proofs.list_laws.written_joined.Goals as goal

pub returns : goal.returns
returns g c = written_joined
