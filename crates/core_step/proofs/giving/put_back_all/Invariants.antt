use Rattle.std.proofs.Common.{◌≡◌, ◌++◌, drop}
use Rattle.node_locks.specs.PuttingBack.{MayPutBack}
use Rattle.core_state.specs.Caches.{keeps, raised_values, put_back_all}
use Rattle.core_step.proofs.giving.put_back_all.Given as goal

abbrev pub invariant-loop-name : goal.invariant-loop-name
invariant-loop-name l = record {
  may : MayPutBack l.node (keeps l.cache) (raised_values l.g (l.takes ++ l.writes)) (drop l.name-index l.held) l.locks;
  same : put_back_all l.g l.node (l.takes ++ l.writes) l.cache (drop l.name-index l.held) l.locks ≡ put_back_all l.g l.node (l.takes ++ l.writes) l.cache l.held l.initial.locks;
}
