use Rattle.node_locks.proofs.Dropping.{first_stays, second_stays}
use Rattle.node_locks.proofs.death_laws.deaths_raise_nothing.Goals as goal

pub returns : goal.returns
returns _ = record { first = first_stays; second = second_stays }
