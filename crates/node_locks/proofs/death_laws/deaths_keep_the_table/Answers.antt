use Rattle.lock_db.proofs.Steps.{IsTable-dropped}
use Rattle.node_locks.proofs.death_laws.deaths_keep_the_table.Goals as goal

pub returns : goal.returns
returns _ = IsTable-dropped
