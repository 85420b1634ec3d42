use Rattle.dlm_core.proofs.Sound.{after-sound, sound-shape}
use Rattle.dlm_core.proofs.Truth.{after-goes}
use Rattle.dlm_core.proofs.dlm.Dlm.step.Goals as goal

pub act-requires : goal.act-requires
act-requires c = rw c.in_ok-next.ensures (sound-shape c.self.inside.cluster c.self.invariant)

pub invariant_of-self : goal.invariant_of-self
invariant_of-self c = rw (c.in_ok-told.ensures.after, c.in_ok-next.ensures) (after-sound c.args.e.now c.self.inside.cluster c.self.invariant)

pub returns-clause-calls : goal.returns-clause-calls
returns-clause-calls c = rw (← c.self.view_is, c.in_ok-told.ensures.after, c.in_ok-next.ensures) (after-goes c.args.e.now c.self.inside.cluster c.self.invariant)
