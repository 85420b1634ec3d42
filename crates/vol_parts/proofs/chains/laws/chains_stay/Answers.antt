use Rattle.vol_parts.proofs.Linked.{chain-stays}
use Rattle.vol_parts.proofs.chains.laws.chains_stay.Goals as goal

pub returns : goal.returns
returns c = chain-stays
