use Rattle.plain_mends.proofs.Skipping.{still_full, names_differ}
use Rattle.plain_mends.proofs.entering.still_full.Goals as goal

pub returns : goal.returns
returns _ = record { full = still_full; names = names_differ }
