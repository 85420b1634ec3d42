use Rattle.lock_db.proofs.Standings.{releases-leave}
use Rattle.lock_db.proofs.laws.releases_leave_nothing.Goals as goal

pub returns : goal.returns
returns c = releases-leave
