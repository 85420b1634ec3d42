use Rattle.vol_records.proofs.Exact.{reads_exactly}
use Rattle.vol_records.proofs.laws.reading_is_exact.Goals as goal

pub returns : goal.returns
returns c = reads_exactly
