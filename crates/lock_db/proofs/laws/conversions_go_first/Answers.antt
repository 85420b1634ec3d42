use Rattle.lock_db.proofs.Rules.{settled-conversions_first}
use Rattle.lock_db.proofs.laws.conversions_go_first.Goals as goal

pub returns : goal.returns
returns c = settled-conversions_first
