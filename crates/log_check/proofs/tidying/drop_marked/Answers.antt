use Rattle.std.proofs.Common.{◌≤◌, ◌*◌, List, All, sym, subst, arith}
use Rattle.plain_cat.specs.declared.cat.Slot.{Slot}
use Rattle.plain_rules.specs.Lookups.{clusters_in}
use Rattle.log_check.proofs.Dropping.{still_sized, nothing_drops}
use Rattle.log_check.proofs.tidying.drop_marked.Goals as goal

pub sum_rows-requires-clause-sizes : goal.sum_rows-requires-clause-sizes
sum_rows-requires-clause-sizes c =
    subst (λ (fs : List Slot). All (λ (s : Slot). c.args.cat.now.factor * clusters_in s ≤ 65536) fs) (sym c.free_marked.ensures) (still_sized c.args.cat.now.factor c.args.cat.now.files c.requires.accounted.sizes)

pub returns-else-marked_count-gt0 : goal.returns-else-marked_count-gt0
returns-else-marked_count-gt0 c =
    let count = c.marked_count.ensures in
    let none = c.if-marked_count-gt0.false in
    nothing_drops c.args.cat.now c.requires.usage (omega (arith, count, none))
