use Rattle.lock_db.proofs.Blocks.{deaths-clear}
use Rattle.lock_db.proofs.laws.deaths_clear_the_mark.Goals as goal

pub returns : goal.returns
returns c = deaths-clear
