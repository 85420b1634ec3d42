use Rattle.core_state.proofs.Sparing.{AreMade}
use Rattle.core_state.proofs.spare.SpareLists.new.Given as goal

abbrev pub invariant-loop : goal.invariant-loop
invariant-loop l = AreMade l.lists.items l.counter
