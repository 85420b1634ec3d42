use Rattle.dlm_core.proofs.Sound.{sound-shape}
use Rattle.dlm_core.proofs.dlm.Dlm.notices.Goals as goal

pub notices-requires : goal.notices-requires
notices-requires c = sound-shape c.self.inside.cluster c.self.invariant
