use Rattle.lock_db.proofs.Blocks.{death-leaves}
use Rattle.lock_db.proofs.laws.deaths_leave_other_names.Goals as goal

pub returns : goal.returns
returns c = death-leaves
