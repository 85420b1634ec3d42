use Rattle.std.proofs.Common.{arith}
use Rattle.std.proofs.lemmas.Grind.{common_steps}
use Rattle.vol_faults.proofs.Stripping.{waiting_is}
use Rattle.vol_faults.proofs.staying.waiting.Goals as goal

pub returns : goal.returns
returns c = grind (arith, common_steps, waiting_is c.args.cat.now)
