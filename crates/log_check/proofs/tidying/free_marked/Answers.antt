use Rattle.std.proofs.Common.{◌≡◌, ◌∙◌, List, Some, length, slice_get, slice_set, ap, arith}
use Rattle.plain_cat.specs.declared.cat.Slot.{Slot}
use Rattle.plain_tidy.specs.Tidy.{less_marked}
use Rattle.log_check.proofs.InPlace.{none_changed, next_stands, one_more, changed_length, has_next, ends}
use Rattle.log_check.proofs.tidying.free_marked.Goals as goal

pub loop-at-init : goal.loop-at-init
loop-at-init c = none_changed less_marked c.args.files.now

pub free_if_marked-requires : goal.free_if_marked-requires
free_if_marked-requires c =
    let many = changed_length less_marked c.args.files.now c.loop-at.at in
    let files = ap length c.loop-at.invariant in
    let all = ap length c.items-at-end.ensures in
    let lt = c.loop-at-test.true in
    omega (arith, many, files, all, lt)

pub loop-at-preserved : goal.loop-at-preserved
loop-at-preserved c =
    let all = ap length c.items-at-end.ensures in
    let before = c.loop-at-test.true in
    let next = has_next c.args.files.now c.loop-at.at (omega (arith, all, before)) in
    let stands : slice_get c.loop-at.files c.loop-at.at ≡ Some next.0 =
    ap (λ (fs : List Slot). slice_get fs c.loop-at.at) c.loop-at.invariant ∙ (next_stands less_marked c.args.files.now c.loop-at.at ∙ next.1) in
    c.free_if_marked.ensures next.0 stands
    ∙ (ap (λ (fs : List Slot). slice_set fs c.loop-at.at (less_marked next.0)) c.loop-at.invariant ∙ one_more less_marked c.args.files.now c.loop-at.at next.0 next.1)

pub returns : goal.returns
returns c =
    ends less_marked c.args.files.now c.loop-at.files c.loop-at.at (length c.items-at-end.result.now) c.loop-at.invariant (ap length c.items-at-end.ensures) c.loop-at-test.false c.loop-at.auto.at-end
