use Rattle.plain_histories.proofs.Keeping.{answer_apart, answer_keeps, stage_keeps, dead_keeps}
use Rattle.plain_histories.proofs.open_laws.outcome_keeps_open.Goals as goal

pub returns : goal.returns
returns _ = record {
  channel = λ c d m n chan x r own far a. (answer_apart c d m n chan x r own far a).still;
  answers = answer_keeps;
  stages = stage_keeps;
  deaths = dead_keeps;
}
