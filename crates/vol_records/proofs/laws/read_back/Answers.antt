use Rattle.vol_records.proofs.Back.{reads_back}
use Rattle.vol_records.proofs.laws.read_back.Goals as goal

pub returns : goal.returns
returns c = reads_back
