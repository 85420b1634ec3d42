use Rattle.run_engine.proofs.Releasing.{turns_are_two_phase}
use Rattle.run_engine.proofs.laws.turns_are_two_phase.Goals as goal

pub returns : goal.returns
returns c = turns_are_two_phase
