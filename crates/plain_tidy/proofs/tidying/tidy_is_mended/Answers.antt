use Rattle.plain_tidy.proofs.Finishing.{tidy_mended}
use Rattle.plain_tidy.proofs.tidying.tidy_is_mended.Goals as goal

pub returns : goal.returns
returns _ = tidy_mended
