use Rattle.fx_dir.proofs.Finding.{reads_set}
use Rattle.fx_dir.proofs.laws.reading_gives_the_set.Goals as goal

pub returns : goal.returns
returns c = reads_set
