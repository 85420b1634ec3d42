use Rattle.vol_parts.proofs.FewClusters.{sound-few}
use Rattle.vol_parts.proofs.Splits.{split-counts, split-few, few-in-one}
use Rattle.vol_parts.proofs.chains.laws.split_chains_are_counted.Goals as goal

pub returns : goal.returns
returns c = record { count = split-counts; few = split-few; one = few-in-one; sound = sound-few }
