use Rattle.plain_histories.proofs.Replaying.{replay_opens}
use Rattle.plain_histories.proofs.open_laws.past_channels.Goals as goal

pub returns : goal.returns
returns _ = replay_opens
