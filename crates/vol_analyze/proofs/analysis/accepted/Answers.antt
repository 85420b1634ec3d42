use Rattle.std.proofs.Common.{subst}
use Rattle.fx_home.specs.Homes.{home_read}
use Rattle.vol_parts.specs.Findings.{home_at}
use Rattle.vol_spell.specs.Fully.{IsReadFully}
use Rattle.vol_analyze.specs.Judging.{IsFirstWarning}
use Rattle.vol_analyze.proofs.Heads.{judged_first}
use Rattle.vol_analyze.proofs.analysis.accepted.Goals as goal

pub returns-in-Some : goal.returns-in-Some
returns-in-Some c =
    let bs = c.args.blocks.now in
    judged_first bs c.in-Ok.cat c.in-Some.found (subst (IsReadFully bs) c.in-Ok.is c.in_ok-cat.ensures)
    (subst (IsFirstWarning bs (home_read (home_at bs))) c.in-Some.is c.in_ok-found.ensures)
