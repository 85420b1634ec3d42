use Rattle.plain_rules.proofs.LawSteps.{answered}
use Rattle.plain_rules.proofs.laws.commands_are_answered.Goals as goal

pub returns : goal.returns
returns c = answered
