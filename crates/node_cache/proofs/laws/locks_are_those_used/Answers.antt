use Rattle.node_cache.proofs.LockLists.{any-locks_of}
use Rattle.node_cache.proofs.laws.locks_are_those_used.Goals as goal

pub returns : goal.returns
returns c = any-locks_of
