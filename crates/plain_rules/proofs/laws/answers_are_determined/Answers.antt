use Rattle.plain_rules.proofs.LawSteps.{one_answer, one_refusal, same_answers}
use Rattle.plain_rules.proofs.laws.answers_are_determined.Goals as goal

pub returns : goal.returns
returns c = record { others = one_answer; refused = one_refusal; shown = same_answers }
