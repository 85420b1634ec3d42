use Rattle.std.proofs.Common.{Result, sym, subst}
use Rattle.std.specs.Prelude.{IfOk}
use Rattle.fx_home.specs.declared.home.Home.{Home}
use Rattle.fx_home.specs.declared.home.HomeFault.{HomeFault}
use Rattle.vol_parts.specs.Findings.{AreWarningsBy}
use Rattle.vol_parts.specs.Volumes.{volume}
use Rattle.vol_analyze.proofs.Weakly.{home-read, cat-told, weak-volume, runs-inside, directories-sound, file-sizes}
use Rattle.vol_analyze.proofs.analysis.warnings_of.Goals as goal

pub all_warnings-requires-clause-told : goal.all_warnings-requires-clause-told
all_warnings-requires-clause-told c = cat-told c.args.blocks.now c.args.cat.now c.in-Ok.home c.requires.told (sym c.in-Ok.ensures.value)

pub all_warnings-requires-clause-runs : goal.all_warnings-requires-clause-runs
all_warnings-requires-clause-runs c =
    runs-inside (volume c.in-Ok.home c.args.blocks.now) (weak-volume c.args.blocks.now c.args.cat.now c.in-Ok.home c.requires.told (sym c.in-Ok.ensures.value))

pub all_warnings-requires-clause-sizes : goal.all_warnings-requires-clause-sizes
all_warnings-requires-clause-sizes c = file-sizes c.args.blocks.now c.args.cat.now c.requires.size c.blocks_are_whole.ensures c.requires.told

pub all_warnings-requires-clause-sound : goal.all_warnings-requires-clause-sound
all_warnings-requires-clause-sound c =
    directories-sound (volume c.in-Ok.home c.args.blocks.now) (weak-volume c.args.blocks.now c.args.cat.now c.in-Ok.home c.requires.told (sym c.in-Ok.ensures.value))

pub returns-in-Ok : goal.returns-in-Ok
returns-in-Ok c =
    subst (λ (r : Result Home HomeFault). IfOk c.all_warnings.result (λ fs. AreWarningsBy c.args.blocks.now r fs.items)) c.in-Ok.ensures.value c.all_warnings.ensures

pub returns-in-Err : goal.returns-in-Err
returns-in-Err c = absurd (home-read c.args.blocks.now c.args.cat.now c.in-Err.field-0 c.requires.told (sym c.in-Err.ensures.value))
