use Rattle.fx_dir.proofs.Written.{block-read}
use Rattle.fx_dir.proofs.laws.written_blocks_read_back.Goals as goal

pub returns : goal.returns
returns c es form ranged order room = block-read es (record { form = form; ranged = ranged }) order room
