use Rattle.std.proofs.Common.{List, length, ap, arith}
use Rattle.plain_cat.specs.declared.cat.Slot.{Slot}
use Rattle.vol_faults.proofs.WalkLemmas.{walk-ends}
use Rattle.vol_faults.proofs.loops.lowest_on_loop.Goals as goal

pub returns : goal.returns
returns c =
    let h = c.loop-n.invariant in
    walk-ends c.args.cat.now c.loop-n.walk c.loop-n.n h.walk h.none (omega (arith, ap (λ (ss : List Slot). length ss) c.items.ensures)) h.begun
