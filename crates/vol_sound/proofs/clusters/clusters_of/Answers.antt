use Rattle.vol_parts.specs.Volumes.{volume}
use Rattle.vol_sound.proofs.ClusterLemmas.{span-of-run}
use Rattle.vol_sound.proofs.clusters.clusters_of.Goals as goal

pub returns : goal.returns
returns c =
    span-of-run (volume c.args.home.now c.args.blocks.now) c.args.run.now _ _ c.requires.cluster_low (cc) (cc)
