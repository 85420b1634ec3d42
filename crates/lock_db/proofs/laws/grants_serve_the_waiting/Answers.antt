use Rattle.lock_db.proofs.Standings.{grants-serve}
use Rattle.lock_db.proofs.laws.grants_serve_the_waiting.Goals as goal

pub returns : goal.returns
returns c = grants-serve
