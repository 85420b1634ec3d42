use Rattle.core_space.specs.Answering.{blocks_alone}
use Rattle.core_space.proofs.Gathering.{Gathered}
use Rattle.core_space.proofs.taking.take_clusters.Given as goal

abbrev pub invariant-loop-k : goal.invariant-loop-k
invariant-loop-k l = Gathered l.geometry l.wanted l.number (blocks_alone l.storage) l.fn.writes l.taken l.writes l.k
