use Rattle.std.proofs.Common.{◌≡◌, ◌++◌, ◌-◌}
use Rattle.std.specs.List.{flat_map, range_with_len}
use Rattle.vol_show.specs.Listing.{nameless_text}
use Rattle.vol_show.proofs.lines.push_all_nameless.Given as goal

abbrev pub invariant-loop-n : goal.invariant-loop-n
invariant-loop-n l = l.out.items ≡ l.fn.out.items ++ flat_map (nameless_text l.cat) (range_with_len 1 (l.n - 1))
