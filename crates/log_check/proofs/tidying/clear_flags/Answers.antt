use Rattle.std.proofs.Common.{◌∙◌, Bool, false, List, length, slice_set, ap, arith}
use Rattle.log_check.proofs.InPlace.{none_changed, one_more, changed_length, has_next, ends}
use Rattle.log_check.proofs.tidying.clear_flags.Goals as goal

pub loop-at-init : goal.loop-at-init
loop-at-init c = none_changed (λ (b : Bool). false) c.args.flags.now

pub set-requires : goal.set-requires
set-requires c =
    let many = changed_length (λ (b : Bool). false) c.args.flags.now c.loop-at.at in
    let flags = ap length c.loop-at.invariant in
    let all = ap length c.items-at-end.ensures in
    let lt = c.loop-at-test.true in
    omega (arith, many, flags, all, lt)

pub loop-at-preserved : goal.loop-at-preserved
loop-at-preserved c =
    let all = ap length c.items-at-end.ensures in
    let before = c.loop-at-test.true in
    let next = has_next c.args.flags.now c.loop-at.at (omega (arith, all, before)) in
    c.set.ensures
    ∙ (ap (λ (fs : List Bool). slice_set fs c.loop-at.at false) c.loop-at.invariant ∙ one_more (λ (b : Bool). false) c.args.flags.now c.loop-at.at next.0 next.1)

pub returns : goal.returns
returns c =
    ends (λ (b : Bool). false) c.args.flags.now c.loop-at.flags c.loop-at.at (length c.items-at-end.result.now) c.loop-at.invariant (ap length c.items-at-end.ensures) c.loop-at-test.false c.loop-at.auto.at-end
