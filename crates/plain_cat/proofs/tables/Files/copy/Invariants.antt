use Rattle.std.proofs.Common.{◌≡◌, take}
use Rattle.plain_cat.proofs.tables.Files.copy.Given as goal

abbrev pub invariant-loop-x : goal.invariant-loop-x
invariant-loop-x l = l.all.items ≡ take l.x-index l.x-items
