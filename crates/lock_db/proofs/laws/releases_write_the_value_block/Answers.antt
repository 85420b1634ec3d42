use Rattle.lock_db.proofs.Blocks.{releases-write}
use Rattle.lock_db.proofs.laws.releases_write_the_value_block.Goals as goal

pub returns : goal.returns
returns c = releases-write
