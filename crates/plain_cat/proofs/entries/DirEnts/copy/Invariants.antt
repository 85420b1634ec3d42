use Rattle.std.proofs.Common.{◌≡◌, take}
use Rattle.plain_cat.proofs.entries.DirEnts.copy.Given as goal

abbrev pub invariant-loop-e : goal.invariant-loop-e
invariant-loop-e l = l.all.items ≡ take l.e-index l.e-items
