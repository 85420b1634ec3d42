use Rattle.std.proofs.Common.{◌∙◌, sym}
use Rattle.vol_parts.specs.Volumes.{volume}
use Rattle.vol_sound.proofs.SizeLemmas.{told-badly, told-well, told-none}
use Rattle.vol_sound.proofs.beyond.is_bad_size.Goals as goal

pub returns-in_default-clause-good : goal.returns-in_default-clause-good
returns-in_default-clause-good c e fault =
    let v = volume c.args.home.now c.args.blocks.now in
    told-none v c.args.n c.requires.systems c.requires.number (sym c.fields.ensures ∙ c.in_default.is)

pub returns-clause-bad : goal.returns-clause-bad
returns-clause-bad c bad =
    let v = volume c.args.home.now c.args.blocks.now in
    told-badly v c.args.n c.in-Some.f c.ends_after_cluster.result c.requires.systems c.requires.number (sym c.in-Some.ensures) c.ends_after_cluster.ensures bad

pub returns-clause-good : goal.returns-clause-good
returns-clause-good c good fault =
    let v = volume c.args.home.now c.args.blocks.now in
    told-well v c.args.n c.in-Some.f c.ends_after_cluster.result c.requires.systems c.requires.number (sym c.in-Some.ensures) c.ends_after_cluster.ensures good fault
