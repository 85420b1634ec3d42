use Rattle.std.proofs.Common.{◌∙◌, ap}
use Rattle.vol_parts.specs.Volumes.{volume}
use Rattle.vol_sound.specs.Clusters.{are_once}
use Rattle.vol_sound.proofs.OnceLemmas.{once-unshared}
use Rattle.vol_sound.proofs.sound.shares_none.Goals as goal

pub returns : goal.returns
returns c =
    let v = volume c.args.home.now c.args.blocks.now in
    c.are_once.ensures ∙ ap (are_once v c.args.counts.now) c.file_runs.ensures ∙ once-unshared v c.args.counts.now c.args.n c.requires.counts
