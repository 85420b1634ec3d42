use Rattle.xqp_set.proofs.Every.{every_lawful}
use Rattle.xqp_set.proofs.laws.commands_obey_the_law.Goals as goal

pub returns : goal.returns
returns c = every_lawful
