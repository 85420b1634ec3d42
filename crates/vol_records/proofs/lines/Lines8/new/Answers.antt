use Rattle.vol_records.proofs.Held.{AreLines-none}
use Rattle.vol_records.proofs.lines.Lines8.new.Goals as goal

pub invariant_of-result : goal.invariant_of-result
invariant_of-result c = rw (c.new.ensures.items, c.new-2.ensures.items) AreLines-none
