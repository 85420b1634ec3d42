use Rattle.std.proofs.Common.{◌≡◌, ◌∙◌, ◌≤◌, ◌-◌, ◌∷◌, length, ap, sym, arith}
use Rattle.vol_parts.specs.Chains.{cut}
use Rattle.op_steps.specs.Iter.{listed_left}
use Rattle.vol_parts.proofs.Cuts.{cut-none, cut-nil}
use Rattle.op_steps.proofs.CutRuns.{cut_first}
use Rattle.op_steps.proofs.runs.SeenRunsIterator.next.Goals as goal

pub returns-then-self-eq0-clause-steps : goal.returns-then-self-eq0-clause-steps
returns-then-self-eq0-clause-steps c =
    let zero : c.args.self.now.blocks ≡ 0 = (let t = c.if-self-eq0.true in omega arith) in
    let none = ap (λ k. cut k (listed_left c.args.self.now.listed)) zero ∙ cut-none (listed_left c.args.self.now.listed) in
    (none, none)

pub returns-in_err-run-clause-steps : goal.returns-in_err-run-clause-steps
returns-in_err-run-clause-steps c =
    let k = c.args.self.now.blocks in
    rw c.from_residual.ensures (ap (cut k) c.in_err-run.ensures.steps.0 ∙ cut-nil k, ap (cut k) c.in_err-run.ensures.steps.1 ∙ cut-nil k)

pub returns-clause-steps : goal.returns-clause-steps
returns-clause-steps c =
    let k = c.args.self.now.blocks in
    let r = c.in_ok-run.run' in
    let rest = listed_left c.next.new.self in
    let some : 1 ≤ k = (let t = c.if-self-eq0.false in omega arith) in
    ap (cut k) c.in_ok-run.ensures.steps
    ∙ cut_first k r rest some
    ∙ ap (λ n. record { lbn = r.lbn; count = n } ∷ cut (k - n) rest) (sym c.min-count.ensures)

pub returns-clause-goes : goal.returns-clause-goes
returns-clause-goes c =
    let k = c.args.self.now.blocks in
    let r = c.in_ok-run.run' in
    let rest = listed_left c.next.new.self in
    let some : 1 ≤ k = (let t = c.if-self-eq0.false in omega arith) in
    let all = ap (cut k) c.in_ok-run.ensures.steps
    ∙ cut_first k r rest some
    ∙ ap (λ n. record { lbn = r.lbn; count = n } ∷ cut (k - n) rest) (sym c.min-count.ensures) in
    let longer = ap length all in
    record { on = λ finite. (tt, tt, omega (arith, longer)); keeps = tt; rests = λ finite. tt }
