use Rattle.core_state.specs.Worlds.{state_of}
use Rattle.core_death.specs.Lasts.{number_told}
use Rattle.core_death.proofs.Listing.{AreListed}
use Rattle.core_death.proofs.things.list_numbers.Given as goal

abbrev pub invariant-loop-n : goal.invariant-loop-n
invariant-loop-n g l = AreListed (number_told (state_of g.O.Operation.cmd_is l.node)) l.list.items l.list.room l.n
