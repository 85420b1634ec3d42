use Rattle.std.proofs.Common.{◌≡◌, map, replicate}
use Rattle.core_state.specs.Worlds.{state_of}
use Rattle.core_state.specs.Mounting.{at_rest}
use Rattle.core_state.proofs.mounting.all_resting.Given as goal

abbrev pub invariant-loop : goal.invariant-loop
invariant-loop g l = map (state_of g.O.Operation.cmd_is) l.nodes.items ≡ replicate l.counter (at_rest l.geometry)
