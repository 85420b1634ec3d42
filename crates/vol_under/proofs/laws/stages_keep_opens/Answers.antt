use Rattle.vol_under.proofs.Channels.{stages_keep_opens}
use Rattle.vol_under.proofs.laws.stages_keep_opens.Goals as goal

pub returns : goal.returns
returns c = stages_keep_opens
