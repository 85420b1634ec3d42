use Rattle.node_locks.proofs.Dropping.{granted_stays, nothing_comes, own_go}
use Rattle.node_locks.proofs.death_laws.deaths_leave_other_owners.Goals as goal

pub returns : goal.returns
returns _ = record { granted = granted_stays; nothing = nothing_comes; own = own_go }
