use Rattle.dlm_core.proofs.LastWrites.{holders-have}
use Rattle.dlm_core.proofs.laws.holders_have_the_last_write.Goals as goal

pub returns : goal.returns
returns c = holders-have
