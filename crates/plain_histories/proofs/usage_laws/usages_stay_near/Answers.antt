use Rattle.plain_histories.proofs.Stating.{answer_near, stage_near, dead_near, eight_near}
use Rattle.plain_histories.proofs.usage_laws.usages_stay_near.Goals as goal

pub returns : goal.returns
returns _ = record { answers = answer_near; stages = stage_near; deaths = dead_near; eight = eight_near }
