use Rattle.plain_cat.proofs.OwnPlaces.{no_places}
use Rattle.plain_cat.proofs.script.Lines.new.Goals as goal

pub invariant_of-result : goal.invariant_of-result
invariant_of-result c = rw (c.new.ensures.items, c.new-2.ensures.items) no_places
