use Rattle.std.proofs.Common.{◌≡◌}
use Rattle.node_cache.proofs.Walks.{locks_in}
use Rattle.core_space.specs.Lasting.{stays_by}
use Rattle.core_space.proofs.Staying.{AreMoved}
use Rattle.core_space.proofs.lasting.move_staying.Given as goal

abbrev pub invariant-loop-at : goal.invariant-loop-at
invariant-loop-at l = record { walked : l.walk ≡ locks_in l.cache; moved : AreMoved (stays_by l.stocked l.cache) l.locks l.initial.locks l.kept l.at }
