use Rattle.std.proofs.Common.{◌≡◌, take}
use Rattle.plain_cat.proofs.script.Lines.copy.Given as goal

abbrev pub invariant-loop-x : goal.invariant-loop-x
invariant-loop-x l = l.all ≡ take l.x-index l.x-items
