use Rattle.std.proofs.Common.{◌≡◌, ◌++◌, map, take}
use Rattle.vol_records.specs.Texts.{printable}
use Rattle.vol_records.proofs.texts.add_printable.Given as goal

abbrev pub invariant-loop-b : goal.invariant-loop-b
invariant-loop-b l = l.out.items ≡ l.fn.out.items ++ map printable (take l.b-index l.bytes)
