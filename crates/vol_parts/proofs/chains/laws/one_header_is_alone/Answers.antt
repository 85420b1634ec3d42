use Rattle.vol_parts.proofs.Linked.{one-alone, one-whole}
use Rattle.vol_parts.proofs.chains.laws.one_header_is_alone.Goals as goal

pub returns : goal.returns
returns c = record { alone = one-alone; whole = one-whole }
