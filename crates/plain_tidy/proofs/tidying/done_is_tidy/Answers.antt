use Rattle.plain_tidy.proofs.Finishing.{done_tidy}
use Rattle.plain_tidy.proofs.tidying.done_is_tidy.Goals as goal

pub returns : goal.returns
returns _ = done_tidy
