use Rattle.vol_records.proofs.Faults.{faults_first}
use Rattle.vol_records.proofs.laws.faults_are_first.Goals as goal

pub returns : goal.returns
returns c = faults_first
