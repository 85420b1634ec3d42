use Rattle.std.proofs.Common.{◌∙◌, ◌≤◌, arith}
use Rattle.vol_parts.proofs.ChainSteps.{cut-ends, cut-last, cut-goes, cut-done}
use Rattle.vol_parts.proofs.chains.cut.Goals as goal

pub returns-then-left-eq0 : goal.returns-then-left-eq0
returns-then-left-eq0 c =
    cut-ends c.loop-run.front.items c.loop-run.left c.loop-run.run-index c.args.runs.now _ c.loop-run.invariant c.if-left-eq0.true

pub returns-then-left-run : goal.returns-then-left-run
returns-then-left-run c =
    let some : 1 ≤ c.loop-run.left = omega arith in
    c.in_ok-push.ensures.items
    ∙ cut-last c.loop-run.front.items c.loop-run.left c.loop-run.run-index c.args.runs.now _ _ c.loop-run.invariant c.loop-run-test.true some c.if-left-run.true

pub loop-run-preserved : goal.loop-run-preserved
loop-run-preserved c =
    rw c.in_ok-push-2.ensures.items
    (cut-goes c.loop-run.front.items c.loop-run.left c.loop-run.run-index c.args.runs.now _ _ c.loop-run.invariant c.loop-run-test.true c.if-left-run.false)

pub returns : goal.returns
returns c =
    cut-done c.loop-run.front.items c.loop-run.left c.loop-run.run-index c.args.runs.now _ c.loop-run.invariant c.loop-run-test.false
