use Rattle.lock_db.proofs.Blocks.{recoveries-write}
use Rattle.lock_db.proofs.laws.recoveries_write_the_value_block.Goals as goal

pub returns : goal.returns
returns c = recoveries-write
