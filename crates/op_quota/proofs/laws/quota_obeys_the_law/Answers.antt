use Rattle.op_quota.proofs.Lawful.{quota_lawful}
use Rattle.op_quota.proofs.laws.quota_obeys_the_law.Goals as goal

pub returns : goal.returns
returns c = quota_lawful
