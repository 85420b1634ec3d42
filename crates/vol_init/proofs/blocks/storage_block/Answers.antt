use Rattle.std.proofs.Common.{◌*◌, arith}
use Rattle.vol_init.specs.Layouts.{reserved_clusters, total}
use Rattle.vol_init.proofs.ZeroLemmas.{range-put, range-none}
use Rattle.vol_init.proofs.blocks.storage_block.Goals as goal

pub returns-then-from-to : goal.returns-then-from-to
returns-then-from-to c = λ i h.
    let l = c.args.layout.now in
    range-put c.zeros-b.result c.set_bits.new.b (4096 * c.args.k) (reserved_clusters l) (total l) c.min-from.result c.min-to.result i
    c.zeros-b.ensures (omega arith) (omega arith) c.if-from-to.true c.set_bits.ensures.bits h

pub returns-else-from-to : goal.returns-else-from-to
returns-else-from-to c = λ i h.
    let l = c.args.layout.now in
    range-none c.zeros-b.result (4096 * c.args.k) (reserved_clusters l) (total l) c.min-from.result c.min-to.result i
    c.zeros-b.ensures (omega arith) (omega arith) c.if-from-to.false h
