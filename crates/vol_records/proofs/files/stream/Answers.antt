use Rattle.std.proofs.Common.{Result, subst}
use Rattle.fx_home.specs.declared.home.Home.{Home}
use Rattle.fx_home.specs.declared.home.HomeFault.{HomeFault}
use Rattle.vol_parts.specs.Volumes.{volume}
use Rattle.vol_parts.specs.Findings.{IsFatalBy}
use Rattle.vol_analyze.proofs.Weakly.{runs-inside}
use Rattle.vol_records.proofs.files.stream.Goals as goal

pub stream_of-requires-clause-runs : goal.stream_of-requires-clause-runs
stream_of-requires-clause-runs c number =
    let weak = runs-inside (volume c.in-Ok.home c.args.blocks.now)
    (record { none = λ f h. c.requires.weak f (subst (λ (r : Result Home HomeFault). IsFatalBy c.args.blocks.now r f) c.in-Ok.ensures.value h) }) in
    weak.inside c.args.n number
