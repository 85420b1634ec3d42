use Rattle.std.proofs.Common.{get_or}
use Rattle.std.proofs.lemmas.List.{get_or_default}
use Rattle.vol_faults.proofs.WalkLemmas.{closed-none, closed-more, closed-all}
use Rattle.vol_faults.proofs.loops.close_all.Goals as goal

pub loop-n-init : goal.loop-n-init
loop-n-init c = closed-none c.args.places.now

pub loop-n-preserved : goal.loop-n-preserved
loop-n-preserved c =
    let n = get_or c.args.numbers.now c.loop-n.n-index 0 in
    closed-more c.args.numbers.now c.loop-n.n-index n c.args.places.now c.loop-n.places c.loop-n-test.true
    (get_or_default c.args.numbers.now c.loop-n.n-index 0 n c.loop-n-test.true) (c.requires c.loop-n.n-index 0 c.loop-n-test.true) c.loop-n.invariant

pub returns : goal.returns
returns c = closed-all c.args.numbers.now c.loop-n.n-index c.args.places.now c.loop-n.places c.loop-n-test.false c.loop-n.invariant
