use Rattle.lock_db.proofs.Blocks.{conversions-write}
use Rattle.lock_db.proofs.laws.conversions_write_the_value_block.Goals as goal

pub returns : goal.returns
returns c = conversions-write
