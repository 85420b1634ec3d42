use Rattle.base_words.proofs.ListWrites.{writes_land}
use Rattle.base_words.proofs.list_laws.writes_land.Goals as goal

pub returns : goal.returns
returns g c = writes_land
