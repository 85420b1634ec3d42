use Rattle.std.proofs.Common.{get_or}
use Rattle.std.proofs.lemmas.List.{get_or_default}
use Rattle.vol_faults.proofs.WalkLemmas.{lowered-none, lowered-more, lowered-all}
use Rattle.vol_faults.proofs.loops.lowest_of.Goals as goal

pub loop-n-init : goal.loop-n-init
loop-n-init c = lowered-none c.args.found

pub loop-n-preserved : goal.loop-n-preserved
loop-n-preserved c =
    let n = get_or c.args.numbers.now c.loop-n.n-index 0 in
    lowered-more c.args.numbers.now c.loop-n.n-index n c.args.found c.loop-n.lowest c.lower-lowest.result c.loop-n-test.true
    (get_or_default c.args.numbers.now c.loop-n.n-index 0 n c.loop-n-test.true) c.loop-n.invariant c.lower-lowest.ensures

pub returns : goal.returns
returns c = lowered-all c.args.numbers.now c.loop-n.n-index c.args.found c.loop-n.lowest c.loop-n-test.false c.loop-n.invariant
