use Rattle.std.proofs.Common.{◌<◌, ◌≤◌, ◌∙◌, suc, sym, arith}
use Rattle.fx_header.specs.Iter.{runs_left}
use Rattle.op_law.proofs.Placing.{in_first, in_others}
use Rattle.op_law.proofs.events.place_in.Goals as goal

pub returns-then-left-count : goal.returns-then-left-count
returns-then-left-count c =
    let r = c.in-Some.run' in
    let less : c.loop-run.left < r.count = (let t = c.if-left-count.true in omega arith) in
    sym (in_first r (runs_left c.next.new.self) c.loop-run.left less) ∙ (rw c.in-Some.ensures.steps at c.loop-run.invariant.same)

pub loop-run-preserved : goal.loop-run-preserved
loop-run-preserved c =
    let r = c.in-Some.run' in
    let more : r.count ≤ c.loop-run.left = (let t = c.if-left-count.false in omega arith) in
    let inside = rw c.in-Some.ensures.steps at c.loop-run.invariant.inside in
    record {
      same = sym (in_others r (runs_left c.next.new.self) c.loop-run.left more) ∙ (rw c.in-Some.ensures.steps at c.loop-run.invariant.same);
      inside = λ k d lt. inside (suc k) d (omega arith);
    }
