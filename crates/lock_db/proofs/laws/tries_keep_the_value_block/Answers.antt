use Rattle.lock_db.proofs.Blocks.{tries-keep}
use Rattle.lock_db.proofs.laws.tries_keep_the_value_block.Goals as goal

pub returns : goal.returns
returns c = tries-keep
