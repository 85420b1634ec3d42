use Rattle.std.proofs.Common.{arith}
use Rattle.vol_parts.specs.Volumes.{volume}
use Rattle.vol_faults.proofs.HeaderLemmas.{index-inside}
use Rattle.vol_faults.proofs.LiftLemmas.{catalogue-numbers}
use Rattle.vol_faults.proofs.first.read_of.Goals as goal

pub read_catalogue-requires-clause-there : goal.read_catalogue-requires-clause-there
read_catalogue-requires-clause-there c =
    let h = index-inside (volume c.args.home.now c.args.blocks.now) (omega arith) c.in_default.ensures.heads in
    omega (arith, h)

pub first_of_catalogue-requires : goal.first_of_catalogue-requires
first_of_catalogue-requires c =
    let v = volume c.args.home.now c.args.blocks.now in
    rw c.in_ok-cat.ensures (omega (arith, catalogue-numbers v))
