use Rattle.plain_histories.proofs.Stating.{answer_small, stage_small, dead_small}
use Rattle.plain_histories.proofs.usage_laws.files_stay_small.Goals as goal

pub returns : goal.returns
returns _ = record { answers = answer_small; stages = stage_small; deaths = dead_small }
