use Rattle.std.proofs.Common.{arith}
use Rattle.fx_header.proofs.MergeLemmas.{words-full, words-done}
use Rattle.fx_header.proofs.map.spell.Goals as goal

pub returns-in_err-used : goal.returns-in_err-used
returns-in_err-used c =
    let full = words-full c.args.room c.loop-run.used c.loop-run.map c.args.runs.now c.loop-run.left.now c.in-Some.run' c.in-Some.behind.now
    (omega arith) c.loop-run.invariant.so_far c.in-Some.ensures.0 c.in_err-used.ensures in
    rw c.from_residual.ensures (omega (arith, full))

pub returns : goal.returns
returns c =
    let done = words-done c.loop-run.used c.loop-run.map c.args.runs.now c.loop-run.left.now (omega arith) c.loop-run.invariant.so_far c.in_default.ensures in
    (omega (arith, done.0), c.loop-run.invariant.within, done.1)
