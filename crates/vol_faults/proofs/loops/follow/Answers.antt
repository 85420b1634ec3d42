use Rattle.std.proofs.Common.{◌≡◌, ◌<◌, length, arith, rules}
use Rattle.vol_faults.proofs.WalkLemmas.{all-inside, last-begin, shorter-walk, shorter-kept, kept-on}
use Rattle.vol_faults.proofs.loops.follow.Goals as goal

pub close-requires-clause-all : goal.close-requires-clause-all
close-requires-clause-all c = all-inside c.args.cat.now c.loop-walk.walk c.loop-walk.invariant.walk

pub loop-walk-preserved-then-walk-begin : goal.loop-walk-preserved-then-walk-begin
loop-walk-preserved-then-walk-begin c =
    let h = c.loop-walk.invariant in
    let some : 0 < length c.loop-walk.walk.way.items = search rules in
    let size : c.len.result ≡ length c.loop-walk.walk.begins.items = omega (arith, c.len.ensures) in
    let last = last-begin c.args.cat.now c.loop-walk.walk c.index-begin.result.now c.len.result h.walk some size c.index-begin.ensures in
    record {
      walk = shorter-walk c.args.cat.now c.index-begin.result.now c.loop-walk.walk c.close.new.walk h.walk last.0 last.1 c.if-walk-begin.true c.close.ensures;
      kept = kept-on c.args.walk.now c.loop-walk.walk c.close.new.walk h.kept (shorter-kept c.args.cat.now c.index-begin.result.now c.loop-walk.walk c.close.new.walk h.walk c.close.ensures);
    }
