use Rattle.std.proofs.Common.{◌≡◌, ◌≤◌, ◌*◌, ◌∙◌, List, Some, All, length, slice_get, slice_set, refl, sym, ap, subst, arith}
use Rattle.plain_cat.specs.declared.cat.Cat.{Cat}
use Rattle.plain_cat.specs.declared.cat.Slot.{Slot}
use Rattle.plain_cat.specs.declared.cat.QuotaRow.{QuotaRow}
use Rattle.plain_rules.specs.Lookups.{clusters_in}
use Rattle.plain_rules.specs.Mending.{summed_row}
use Rattle.log_check.proofs.InPlace.{changed, none_changed, next_stands, one_more, changed_length, has_next, ends}
use Rattle.log_check.proofs.tidying.sum_rows.Goals as goal

pub loop-at-init : goal.loop-at-init
loop-at-init c = ap (λ (rows : List QuotaRow). record c.args.cat.now { quota = rows }) (none_changed (summed_row c.args.cat.now) c.args.cat.now.quota)

pub sum_row-requires-clause-at : goal.sum_row-requires-clause-at
sum_row-requires-clause-at c =
    let many = changed_length (summed_row c.args.cat.now) c.args.cat.now.quota c.loop-at.at in
    let rows : length c.loop-at.cat.quota ≡ length (changed (summed_row c.args.cat.now) c.loop-at.at c.args.cat.now.quota) = ap (λ (x : Cat). length x.quota) c.loop-at.invariant in
    let all = ap length c.items-at-end.ensures in
    let lt = c.loop-at-test.true in
    omega (arith, many, rows, all, lt)

pub sum_row-requires-clause-numbers : goal.sum_row-requires-clause-numbers
sum_row-requires-clause-numbers c = subst (λ (x : Cat). length x.files ≤ 4096) (sym c.loop-at.invariant) c.requires.numbers

pub sum_row-requires-clause-sizes : goal.sum_row-requires-clause-sizes
sum_row-requires-clause-sizes c = subst (λ (x : Cat). All (λ (s : Slot). x.factor * clusters_in s ≤ 65536) x.files) (sym c.loop-at.invariant) c.requires.sizes

pub loop-at-preserved : goal.loop-at-preserved
loop-at-preserved c =
    let first : Cat = c.args.cat.now in
    let now : List QuotaRow = changed (summed_row first) c.loop-at.at first.quota in
    let all = ap length c.items-at-end.ensures in
    let before = c.loop-at-test.true in
    let next = has_next first.quota c.loop-at.at (omega (arith, all, before)) in
    let stands : slice_get c.loop-at.cat.quota c.loop-at.at ≡ Some next.0 =
    ap (λ (x : Cat). slice_get x.quota c.loop-at.at) c.loop-at.invariant ∙ (next_stands (summed_row first) first.quota c.loop-at.at ∙ next.1) in
    c.sum_row.ensures next.0 stands
    ∙ (ap (λ (x : Cat). record x { quota = slice_set x.quota c.loop-at.at (summed_row x next.0) }) c.loop-at.invariant
    ∙ ap (λ (rows : List QuotaRow). record first { quota = rows }) (one_more (summed_row first) first.quota c.loop-at.at next.0 next.1))

pub returns : goal.returns
returns c =
    let first : Cat = c.args.cat.now in
    c.loop-at.invariant
    ∙ ap (λ (rows : List QuotaRow). record first { quota = rows })
    (ends (summed_row first) first.quota (changed (summed_row first) c.loop-at.at first.quota) c.loop-at.at (length c.items-at-end.result.now) refl (ap length c.items-at-end.ensures) c.loop-at-test.false c.loop-at.auto.at-end)
