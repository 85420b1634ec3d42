use Rattle.plain_histories.proofs.DeathStages.{deaths_account}
use Rattle.plain_histories.proofs.death_laws.deaths_keep_accounts.Goals as goal

pub returns : goal.returns
returns _ = deaths_account
