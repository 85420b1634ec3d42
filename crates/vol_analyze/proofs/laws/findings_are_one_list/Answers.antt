use Rattle.vol_analyze.proofs.Once.{once}
use Rattle.vol_analyze.proofs.laws.findings_are_one_list.Goals as goal

pub returns : goal.returns
returns c = once
