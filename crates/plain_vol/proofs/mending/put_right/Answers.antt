use Rattle.std.proofs.Common.{◌≤◌, ◌*◌, List, length, sym, subst}
use Rattle.std.specs.Prelude.{All}
use Rattle.plain_cat.specs.declared.cat.Slot.{Slot}
use Rattle.plain_rules.specs.Lookups.{clusters_in}
use Rattle.plain_rules.proofs.MendSteps.{gone_numbers, gone_sizes}
use Rattle.plain_vol.proofs.mending.put_right.Goals as goal

pub summed-requires-clause-numbers : goal.summed-requires-clause-numbers
summed-requires-clause-numbers c =
    subst (λ (fs : List Slot). length fs ≤ 4096) (sym c.in_ok-files.ensures) (gone_numbers c.args.cat c.requires)

pub summed-requires-clause-sizes : goal.summed-requires-clause-sizes
summed-requires-clause-sizes c =
    subst (λ (fs : List Slot). All (λ (s : Slot). c.args.cat.factor * clusters_in s ≤ 65536) fs) (sym c.in_ok-files.ensures) (gone_sizes c.args.cat c.requires)
