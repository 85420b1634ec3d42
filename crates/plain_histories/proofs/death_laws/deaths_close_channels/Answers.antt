use Rattle.plain_histories.proofs.Closing.{own_closed, others_left}
use Rattle.plain_histories.proofs.death_laws.deaths_close_channels.Goals as goal

pub returns : goal.returns
returns _ = record { own = own_closed; others = others_left }
