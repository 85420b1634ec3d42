use Rattle.std.proofs.Common.{arith, ap, length}
use Rattle.plain_cat.specs.declared.entries.DirEnt.{DirEnt}
use Rattle.std.proofs.Common.{List}
use Rattle.vol_faults.proofs.WalkLemmas.{further-end, looks-read}
use Rattle.vol_faults.proofs.loops.advance.Goals as goal

pub returns : goal.returns
returns c =
    let n = c.index-n.result.now in
    let h = c.loop-entries.invariant in
    let read = looks-read c.args.cat.now n c.index.result.now c.loop-entries.walk h.walk h.last c.index.ensures in
    let long = ap (λ (es : List DirEnt). length es) c.entries_of-entries.ensures in
    further-end c.args.cat.now n c.args.walk.now c.loop-entries.walk c.shorten.new.walk h.walk h.last h.new h.way h.end h.kept
    (omega (arith, c.loop-entries-test.false, read, long)) c.shorten.ensures
