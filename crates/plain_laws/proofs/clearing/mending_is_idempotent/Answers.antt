use Rattle.plain_laws.proofs.AgainSteps.{mended_again}
use Rattle.plain_laws.proofs.clearing.mending_is_idempotent.Goals as goal

pub returns : goal.returns
returns _ = mended_again
