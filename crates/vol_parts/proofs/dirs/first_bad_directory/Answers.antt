use Rattle.std.proofs.lemmas.Result.{IfOk-weaker}
use Rattle.vol_parts.specs.Volumes.{volume}
use Rattle.vol_parts.specs.Conditions.{IsFirstDirFault}
use Rattle.vol_parts.specs.Firsts.{IsFirstOf}
use Rattle.vol_parts.proofs.FirstLemmas.{first-directory}
use Rattle.vol_parts.proofs.dirs.first_bad_directory.Goals as goal

pub returns : goal.returns
returns c =
    let v = volume c.args.home.now c.args.blocks.now in
    IfOk-weaker c.lowest_dir_fault.result (IsFirstDirFault v) (IsFirstOf v 8) (first-directory v) c.lowest_dir_fault.ensures
