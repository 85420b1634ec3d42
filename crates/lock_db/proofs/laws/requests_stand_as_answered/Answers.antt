use Rattle.lock_db.proofs.Standings.{requests-stand}
use Rattle.lock_db.proofs.laws.requests_stand_as_answered.Goals as goal

pub returns : goal.returns
returns c = requests-stand
