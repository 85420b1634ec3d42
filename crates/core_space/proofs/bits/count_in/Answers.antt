use Rattle.std.proofs.Common.{◌∙◌, ◌*◌, sym, arith}
use Rattle.fx_bitmap.specs.Bits.{bit_at, count_set}
use Rattle.fx_bitmap.proofs.Counts.{count_below-le}
use Rattle.core_space.proofs.Loops.{counts_more, counts_same, counts_all, counts_whole}
use Rattle.core_space.proofs.bits.count_in.Goals as goal
use Rattle.core_space.proofs.bits.count_in.Goals.{then-bit, else-bit}

pub loop-q-preserved : goal.loop-q-preserved
loop-q-preserved c =
    let le = c.loop-q.auto.q in
    let lt = c.loop-q-test.true in
    let most = c.loop-q.invariant.1 in
    let inside = c.loop-q.invariant.2 in
    elim c.if-bit.branch [
      | then-bit w ↦
          rw (w.count-is) (
            counts_more c.args.block.now (4096 * c.args.k) c.loop-q.q c.loop-q.count le c.loop-q.invariant.0 (sym c.bit.ensures ∙ w.if-bit.true),
            omega arith,
            omega arith,
          )
      | else-bit w ↦
          rw (w.count-is) (
            counts_same c.args.block.now (4096 * c.args.k) c.loop-q.q c.loop-q.count le c.loop-q.invariant.0 (sym c.bit.ensures ∙ w.if-bit.false),
            omega arith,
            omega arith,
          )
    ]

pub returns-then-end-first-clause-count : goal.returns-then-end-first-clause-count
returns-then-end-first-clause-count c =
    let end = c.min-end.ensures in
    let whole = c.if-end-first.true in
    c.count_set.ensures ∙ counts_whole c.args.geometry.now c.args.k c.args.block.now (omega arith)

pub returns-then-end-first-clause-most : goal.returns-then-end-first-clause-most
unfolding count_set
returns-then-end-first-clause-most c = rw c.count_set.ensures (count_below-le (bit_at c.args.block.now) 4096)

pub returns-clause-count : goal.returns-clause-count
returns-clause-count c =
    let end = c.min-end.ensures in
    let le = c.loop-q.auto.q in
    let stop = c.loop-q-test.false in
    let inside = c.loop-q.invariant.2 in
    c.loop-q.invariant.0 ∙ counts_all c.args.geometry.now c.args.k c.loop-q.q c.args.block.now (omega arith)
