use Rattle.lock_db.specs.Tables.{resource_at}
use Rattle.lock_db.proofs.Steps.{IsSettled-at}
use Rattle.lock_db.proofs.Rules.{all_together-once}
use Rattle.lock_db.proofs.laws.an_owner_stands_once.Goals as goal

pub returns : goal.returns
returns c = λ t name s. let k = IsSettled-at name t s in all_together-once (resource_at name t).askers k.together
