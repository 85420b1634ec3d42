use Rattle.lock_db.proofs.Blocks.{requests-keep}
use Rattle.lock_db.proofs.laws.requests_keep_the_value_block.Goals as goal

pub returns : goal.returns
returns c = requests-keep
