use Rattle.lock_db.proofs.Standings.{deaths-leave}
use Rattle.lock_db.proofs.laws.deaths_leave_nothing.Goals as goal

pub returns : goal.returns
returns c = deaths-leave
