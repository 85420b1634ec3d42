use Rattle.vol_analyze.proofs.Present.{present}
use Rattle.vol_analyze.proofs.laws.there_are_findings.Goals as goal

pub returns : goal.returns
returns c = present
