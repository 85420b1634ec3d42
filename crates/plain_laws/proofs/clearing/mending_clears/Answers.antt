use Rattle.plain_laws.proofs.ClearSteps.{mended_cleared, mended_named}
use Rattle.plain_laws.proofs.clearing.mending_clears.Goals as goal

pub returns : goal.returns
returns _ = record { cleared = mended_cleared; named = mended_named }
