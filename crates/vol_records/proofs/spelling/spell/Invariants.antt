use Rattle.vol_records.proofs.Back.{AreSpelt}
use Rattle.vol_records.proofs.spelling.spell.Given as goal

abbrev pub invariant-loop-i : goal.invariant-loop-i
invariant-loop-i l = AreSpelt l.lines l.i l.stream.items
