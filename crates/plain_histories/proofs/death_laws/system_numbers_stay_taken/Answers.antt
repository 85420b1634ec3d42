use Rattle.plain_histories.proofs.Numbers.{answer_taken}
use Rattle.plain_histories.proofs.DeathStages.{deaths_taken}
use Rattle.plain_histories.proofs.death_laws.system_numbers_stay_taken.Goals as goal

pub returns : goal.returns
returns _ = record { answers = λ c d n x r i names a. answer_taken c d n x r names a i; deaths = deaths_taken }
