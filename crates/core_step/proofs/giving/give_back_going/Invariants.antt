use Rattle.std.proofs.Common.{◌≡◌, ◌++◌, drop}
use Rattle.node_cache.proofs.Walks.{locks_in}
use Rattle.core_state.specs.Events.{given_back}
use Rattle.core_step.specs.Giving.{MayGiveAll}
use Rattle.core_step.proofs.Returning.{going_of}
use Rattle.core_step.proofs.giving.give_back_going.Given as goal

abbrev pub invariant-loop-name : goal.invariant-loop-name
invariant-loop-name l = record {
  walked : l.walk ≡ locks_in l.cache;
  may : MayGiveAll l.g l.node (l.takes ++ l.writes) (going_of l.stocked l.cache (drop l.name-index l.kept)) l.locks;
  same : given_back l.g l.node (l.takes ++ l.writes) (going_of l.stocked l.cache (drop l.name-index l.kept)) l.locks ≡ given_back l.g l.node (l.takes ++ l.writes) (going_of l.stocked l.cache l.kept) l.initial.locks;
}
