use Rattle.lock_db.specs.Tables.{resource_at}
use Rattle.lock_db.proofs.Steps.{IsSettled-at}
use Rattle.lock_db.proofs.Rules.{IsSettled-held_up}
use Rattle.lock_db.proofs.laws.a_head_is_held_up.Goals as goal

pub returns : goal.returns
returns c = λ t name a s h. IsSettled-held_up (resource_at name t).askers a (IsSettled-at name t s) h
