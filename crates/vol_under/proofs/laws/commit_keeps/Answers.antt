use Rattle.vol_under.proofs.Steps.{commit_keeps}
use Rattle.vol_under.proofs.laws.commit_keeps.Goals as goal

pub returns : goal.returns
returns c = commit_keeps
