use Rattle.lock_db.proofs.Blocks.{asked-leaves, tried-leaves, converted-leaves, try_converted-leaves, released-leaves, recovered-leaves}
use Rattle.lock_db.proofs.laws.calls_leave_other_names.Goals as goal

pub returns : goal.returns
returns c = record {
  request = asked-leaves;
  try_request = tried-leaves;
  convert = converted-leaves;
  try_convert = try_converted-leaves;
  release = released-leaves;
  recover = recovered-leaves;
}
