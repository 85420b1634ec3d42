use Rattle.fx_dir.proofs.Single.{single_packed}
use Rattle.fx_dir.proofs.laws.packed_blocks_have_no_doubles.Goals as goal

pub returns : goal.returns
returns c = single_packed
