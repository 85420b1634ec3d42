use Rattle.vol_repair.proofs.Leading.{phases_lead}
use Rattle.vol_repair.proofs.laws.phases_lead.Goals as goal

pub returns : goal.returns
returns _ = phases_lead
