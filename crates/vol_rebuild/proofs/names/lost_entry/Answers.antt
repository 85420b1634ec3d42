use Rattle.std.proofs.Common.{◌≤◌, ℕ, length, lit≤}
use Rattle.plain_rules.specs.Mending.{lost_name}
use Rattle.vol_rebuild.proofs.names.lost_entry.Goals as goal

lost_short : (n : ℕ) → length (lost_name n) ≤ 79
unfolding lost_name
lost_short n = lit≤ tt

pub new-requires : goal.new-requires
new-requires c = rw (c.items.ensures, c.in_ok-name.ensures) (lost_short c.args.n)
