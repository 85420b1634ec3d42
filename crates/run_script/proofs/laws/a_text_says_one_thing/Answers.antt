use Rattle.run_script.proofs.OneThing.{one_thing}
use Rattle.run_script.proofs.laws.a_text_says_one_thing.Goals as goal

pub returns : goal.returns
returns c = one_thing
