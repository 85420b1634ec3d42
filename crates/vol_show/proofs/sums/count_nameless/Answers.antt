use Rattle.std.proofs.Common.{arith}
use Rattle.vol_show.specs.Listing.{nameless_count}
use Rattle.vol_show.proofs.Numbered.{sums_next}
use Rattle.vol_show.proofs.sums.count_nameless.Goals as goal

pub loop-n-preserved : goal.loop-n-preserved
loop-n-preserved c =
    let more = sums_next (nameless_count c.args.cat.now) c.loop-n.n c.loop-n.auto.n in
    let last = c.nameless_count-count.ensures.value in
    let one = c.nameless_count-count.ensures.most in
    let from = c.loop-n.auto.n in
    let value = c.loop-n.invariant.value in
    let bound = c.loop-n.invariant.bound in
    record { value = omega arith; bound = omega arith }
