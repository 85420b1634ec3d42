use Rattle.std.proofs.Common.{arith}
use Rattle.fx_bitmap.specs.Bits.{bit_at}
use Rattle.fx_bitmap.proofs.Counts.{count_below-le}
use Rattle.fx_bitmap.proofs.count_set_below.Goals as goal

pub returns-clause-most : goal.returns-clause-most
returns-clause-most c =
    let most = count_below-le (bit_at c.args.b.now) c.loop-i.i in
    let is = c.loop-i.invariant in
    omega arith

pub overflow_add-count : goal.overflow_add-count
overflow_add-count c =
    let most = count_below-le (bit_at c.args.b.now) c.loop-i.i in
    let is = c.loop-i.invariant in
    omega arith
