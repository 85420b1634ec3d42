use Rattle.vol_parts.specs.Volumes.{volume}
use Rattle.vol_analyze.proofs.Weakly.{weak-volume, runs-inside}
use Rattle.vol_rebuild.proofs.Spacing.{counted_of}
use Rattle.vol_rebuild.proofs.bits.counted.Goals as goal

pub count_clusters-requires-clause-runs : goal.count_clusters-requires-clause-runs
count_clusters-requires-clause-runs c =
    runs-inside (volume c.home_of-home.result c.args.blocks.now) (weak-volume c.args.blocks.now c.requires.1 c.home_of-home.result c.requires.2.cat c.home_of-home.ensures.read)

pub returns : goal.returns
returns c = λ g x t. counted_of g c.home_of-home.result c.in_ok-counts.counts.items c.args.blocks.now x t c.home_of-home.ensures.read c.in_ok-counts.ensures
