use Rattle.dlm_core.proofs.Safety.{sound-safe}
use Rattle.dlm_core.proofs.dlm.Dlm.keeps_the_rules.Goals as goal

pub returns-clause-safe : goal.returns-clause-safe
returns-clause-safe c = rw (← c.self.view_is) (sound-safe c.self.inside.cluster c.self.invariant)
