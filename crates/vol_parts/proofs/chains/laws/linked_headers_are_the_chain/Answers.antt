use Rattle.vol_parts.proofs.Linked.{linked-chain, sums-end}
use Rattle.vol_parts.proofs.chains.laws.linked_headers_are_the_chain.Goals as goal

pub returns : goal.returns
returns c = record { linked = linked-chain; sums = sums-end }
