use Rattle.std.proofs.Common.{Result, sym, subst}
use Rattle.std.specs.Prelude.{IfOk}
use Rattle.fx_home.specs.declared.home.Home.{Home}
use Rattle.fx_home.specs.declared.home.HomeFault.{HomeFault}
use Rattle.vol_parts.specs.Volumes.{volume}
use Rattle.vol_analyze.specs.Judging.{IsFirstWarning}
use Rattle.vol_analyze.proofs.Weakly.{home-read, cat-told, weak-volume, runs-inside, directories-sound, file-sizes}
use Rattle.vol_analyze.proofs.Heads.{warning_of}
use Rattle.vol_analyze.proofs.analysis.first_warning_of.Goals as goal

pub first_warning-requires-clause-told : goal.first_warning-requires-clause-told
first_warning-requires-clause-told c = cat-told c.args.blocks.now c.args.cat.now c.in-Ok.home c.requires.told (sym c.in-Ok.ensures.value)

pub first_warning-requires-clause-runs : goal.first_warning-requires-clause-runs
first_warning-requires-clause-runs c =
    runs-inside (volume c.in-Ok.home c.args.blocks.now) (weak-volume c.args.blocks.now c.args.cat.now c.in-Ok.home c.requires.told (sym c.in-Ok.ensures.value))

pub first_warning-requires-clause-sizes : goal.first_warning-requires-clause-sizes
first_warning-requires-clause-sizes c = file-sizes c.args.blocks.now c.args.cat.now c.requires.size c.blocks_are_whole.ensures c.requires.told

pub first_warning-requires-clause-sound : goal.first_warning-requires-clause-sound
first_warning-requires-clause-sound c =
    directories-sound (volume c.in-Ok.home c.args.blocks.now) (weak-volume c.args.blocks.now c.args.cat.now c.in-Ok.home c.requires.told (sym c.in-Ok.ensures.value))

pub returns-in-Ok : goal.returns-in-Ok
returns-in-Ok c =
    subst (λ (r : Result Home HomeFault). IfOk c.first_warning.result (IsFirstWarning c.args.blocks.now r)) c.in-Ok.ensures.value
    (warning_of c.args.blocks.now c.in-Ok.home c.first_warning.result c.first_warning.ensures)

pub returns-in-Err : goal.returns-in-Err
returns-in-Err c = absurd (home-read c.args.blocks.now c.args.cat.now c.in-Err.field-0 c.requires.told (sym c.in-Err.ensures.value))
