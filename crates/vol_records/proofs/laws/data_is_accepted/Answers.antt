use Rattle.vol_records.proofs.DataAccepted.{data_is_accepted}
use Rattle.vol_records.proofs.laws.data_is_accepted.Goals as goal

pub returns : goal.returns
returns c = data_is_accepted
