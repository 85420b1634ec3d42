use Rattle.plain_tidy.proofs.Answering.{answer_tidy}
use Rattle.plain_tidy.proofs.Finishing.{dead_tidy, tidied_tidy}
use Rattle.plain_tidy.proofs.tidying.tidy_stays.Goals as goal

pub returns : goal.returns
returns _ = record { answers = answer_tidy; deaths = dead_tidy; mendings = tidied_tidy }
