use Rattle.lock_db.proofs.Standings.{conversions-stand}
use Rattle.lock_db.proofs.laws.conversions_stand_as_answered.Goals as goal

pub returns : goal.returns
returns c = conversions-stand
